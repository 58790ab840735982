use Rattle.std.proofs.Common.{◌≡◌, ℕ, ℤ, Bool, List, Option, map, ap, ◌∙◌}
use Rattle.std.specs.List.{range_with_len}
use Rattle.scan_base.specs.declared.truth.Truth.{Truth}
use Rattle.scan_base.specs.Truth.{negated_if}
use Rattle.arrays.specs.Number.{element_at}
use Rattle.arrays.specs.Validity.{is_valid}
use Rattle.kernels.specs.Ranges.{is_within, long_at, where_known}
use Rattle.kernels.proofs.Compared.{same_map, long_fits, wide_fits}
use Rattle.kernels.proofs.Ranged.{ranged}
use Rattle.kernels.proofs.longs.longs_in.Goals as goal

pub returns : goal.returns
returns c = λ test tests.
    let packed = c.args.packed.now in
    let range = c.args.range.now in
    let kernel = c.longs_within-kernel.result in
    let ends = c.ends_of.result in
    let is = c.longs_within-kernel.ensures in
    let passes : ℕ → Bool = λ place. is_within ends.least ends.most (long_at packed.values.now place) in
    let fits = λ (place : ℕ). long_fits (element_at 8 packed.values.now place) in
    let f : ℕ → Truth = λ place. where_known (is_valid kernel.validity.now place) (is_within kernel.least kernel.most (long_at kernel.values.now place)) in
    let h : ℕ → Truth = λ place. where_known (is_valid packed.validity.now place) (passes place) in
    let same : (place : ℕ) → f place ≡ h place = λ place.
    ap (λ (v : Option (List Bool)). where_known (is_valid v place) (is_within kernel.least kernel.most (long_at kernel.values.now place))) is.validity
    ∙ ap (λ (z : ℤ). where_known (is_valid packed.validity.now place) (is_within z kernel.most (long_at kernel.values.now place))) is.least
    ∙ ap (λ (z : ℤ). where_known (is_valid packed.validity.now place) (is_within ends.least z (long_at kernel.values.now place))) is.most
    ∙ ap (λ (v : List ℕ). where_known (is_valid packed.validity.now place) (is_within ends.least ends.most (long_at v place))) is.values in
    c.not_if.ensures
    ∙ ap (map (negated_if range.turned)) (c.in_ok-mask.ensures ∙ same_map f h same (range_with_len c.args.first c.args.len))
    ∙ ranged range test packed.validity.now (long_at packed.values.now) passes c.args.first c.args.len tests (λ place. wide_fits (long_at packed.values.now place) (fits place))
    (λ place. c.ends_of.ensures (long_at packed.values.now place) (fits place))
