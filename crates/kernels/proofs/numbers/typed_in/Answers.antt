use Rattle.std.proofs.Common.{◌≡◌, ℕ, ℤ, List, FitsSigned, IfOk, subst, sym, ap, ◌∙◌}
use Rattle.std.specs.Int.{w128}
use Rattle.scan_base.specs.declared.truth.Truth.{Truth}
use Rattle.arrow_types.specs.declared.data_type.IntegerType.{IntegerType}
use Rattle.arrays.specs.Number.{byte_width, element_at, integer_at}
use Rattle.arrays.proofs.OfType.{integer_wide}
use Rattle.kernels.proofs.Ranged.{integers_said}
use Rattle.kernels.proofs.numbers.typed_in.Goals as goal

pub cells_in-requires-clause-room : goal.cells_in-requires-clause-room
cells_in-requires-clause-room g c =
    rw (g.met.E.Integer.same_width, c.requires.kind) c.packed_integers.ensures.room

pub cells_in-requires-clause-fits : goal.cells_in-requires-clause-fits
cells_in-requires-clause-fits g c = λ place.
    let values = c.packed_integers.result.values.now in
    subst g.E.Number.fits (sym (g.met.E.Integer.same_number values place)) (g.met.E.Integer.in_range values place c.packed_integers.ensures.bytes)

pub cells_in-requires-clause-wide : goal.cells_in-requires-clause-wide
cells_in-requires-clause-wide g c = λ place.
    let values = c.packed_integers.result.values.now in
    subst (FitsSigned w128) (sym (g.met.E.Integer.same_number values place)) (integer_wide g.E.Integer.KIND values place c.packed_integers.ensures.bytes)

pub returns : goal.returns
returns g c = λ test tests.
    let cells = c.args.cells.now in
    let packed = c.packed_integers.result in
    let is = c.packed_integers.ensures in
    let of : List ℕ → ℕ → ℤ = λ v place. g.E.Number.value (g.E.FixedWidth.of_bits (element_at g.E.Element.WIDTH v place)) in
    let same : (place : ℕ) → of packed.values.now place ≡ integer_at cells.integer cells.values place = λ place.
    ap (λ v. of v place) is.values ∙ g.met.E.Integer.same_number cells.values place ∙ ap (λ (t : IntegerType). integer_at t cells.values place) c.requires.kind in
    subst (λ (truths : List Truth). IfOk c.cells_in.result (λ mask. mask ≡ truths))
    (integers_said test cells packed.validity.now (of packed.values.now) c.args.first c.args.len is.validity same) (c.cells_in.ensures test tests)
