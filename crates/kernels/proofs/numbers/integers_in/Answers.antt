use Rattle.std.proofs.Common.{◌≡◌, ℕ, List, IfOk, subst, sym, ap, ◌∙◌}
use Rattle.scan_base.specs.declared.truth.Truth.{Truth}
use Rattle.arrow_types.specs.declared.data_type.IntegerType.{IntegerType}
use Rattle.arrays.specs.Number.{element_at, integer_at}
use Rattle.arrays.specs.inside.SignedNumbers.{signed64}
use Rattle.kernels.specs.Ranges.{long_at}
use Rattle.kernels.proofs.Ranged.{integers_said}
use Rattle.kernels.proofs.numbers.integers_in.Goals as goal

pub returns-in-Int64 : goal.returns-in-Int64
returns-in-Int64 c = λ test tests.
    let cells = c.args.cells.now in
    let packed = c.packed_integers.result in
    let is = c.packed_integers.ensures in
    let same : (place : ℕ) → long_at packed.values.now place ≡ integer_at cells.integer cells.values place = λ place.
    ap (λ (v : List ℕ). long_at v place) is.values ∙ signed64 (element_at 8 cells.values place)
    ∙ sym (ap (λ (t : IntegerType). integer_at t cells.values place) (sym c.integer_type.ensures ∙ c.in-Int64.is)) in
    subst (λ (truths : List Truth). IfOk c.longs_in.result (λ mask. mask ≡ truths))
    (integers_said test cells packed.validity.now (long_at packed.values.now) c.args.first c.args.len is.validity same) (c.longs_in.ensures test tests)
