use Rattle.std.proofs.Common.{◌≡◌, ℕ, ℤ, Bool, List, Option, map, ap, ◌∙◌}
use Rattle.std.specs.List.{range_with_len}
use Rattle.scan_base.specs.declared.truth.Truth.{Truth}
use Rattle.scan_base.specs.Truth.{negated_if}
use Rattle.arrays.specs.Number.{element_at}
use Rattle.arrays.specs.Validity.{is_valid}
use Rattle.kernels.specs.Ranges.{is_within, where_known}
use Rattle.kernels.proofs.Compared.{same_map}
use Rattle.kernels.proofs.Ranged.{ranged}
use Rattle.kernels.proofs.range_membership.cells_in.Goals as goal

pub returns : goal.returns
returns g c = λ test tests.
    let value = g.E.Number.value in
    let of_bits = g.E.FixedWidth.of_bits in
    let width = g.E.Element.WIDTH in
    let packed = c.args.packed.now in
    let range = c.args.range.now in
    let kernel = c.within_ends-kernel.result in
    let ends = c.ends_of.result in
    let is = c.within_ends-kernel.ensures in
    let at : List ℕ → ℕ → ℤ = λ values place. value (of_bits (element_at width values place)) in
    let passes : ℕ → Bool = λ place. is_within (value ends.least) (value ends.most) (at packed.values.now place) in
    let f : ℕ → Truth = λ place. where_known (is_valid kernel.validity.now place) (is_within (value kernel.least) (value kernel.most) (at kernel.values.now place)) in
    let h : ℕ → Truth = λ place. where_known (is_valid packed.validity.now place) (passes place) in
    let same : (place : ℕ) → f place ≡ h place = λ place.
    ap (λ (v : Option (List Bool)). where_known (is_valid v place) (is_within (value kernel.least) (value kernel.most) (at kernel.values.now place))) is.validity
    ∙ ap (λ e. where_known (is_valid packed.validity.now place) (is_within (value e) (value kernel.most) (at kernel.values.now place))) is.least
    ∙ ap (λ e. where_known (is_valid packed.validity.now place) (is_within (value ends.least) (value e) (at kernel.values.now place))) is.most
    ∙ ap (λ (v : List ℕ). where_known (is_valid packed.validity.now place) (is_within (value ends.least) (value ends.most) (at v place))) is.values in
    c.not_if.ensures
    ∙ ap (map (negated_if range.turned)) (c.in_ok-mask.ensures ∙ same_map f h same (range_with_len c.args.first c.args.len))
    ∙ ranged range test packed.validity.now (at packed.values.now) passes c.args.first c.args.len tests c.requires.wide (λ place. c.ends_of.ensures (at packed.values.now place) (c.requires.fits place))
