use Rattle.std.proofs.Common.{◌+◌, ℕ, List, ap, ◌∙◌}
use Rattle.std.proofs.Math.Nat.{le_trans, mul-le-mul_left}
use Rattle.arrow_types.specs.declared.data_type.IntegerType.{IntegerType}
use Rattle.arrays.specs.Number.{byte_width, element_at, integer_at}
use Rattle.kernels.proofs.pairs.fill_typed.Goals as goal

pub fill_cells-requires-clause-room : goal.fill_cells-requires-clause-room
fill_cells-requires-clause-room g c =
    let cells = c.args.cells.now in
    rw (g.met.E.Integer.same_width, c.requires.kind, c.values.ensures)
    (le_trans (mul-le-mul_left (byte_width cells.integer) c.requires.within) c.len-count.ensures.stands.values)

pub returns : goal.returns
returns g c = λ row lt.
    let cells = c.args.cells.now in
    let place : ℕ = c.args.first + row in
    c.fill_cells.ensures row lt
    ∙ ap (λ (v : List ℕ). g.E.Number.value (g.E.FixedWidth.of_bits (element_at g.E.Element.WIDTH v place))) c.values.ensures
    ∙ g.met.E.Integer.same_number cells.values place ∙ ap (λ (t : IntegerType). integer_at t cells.values place) c.requires.kind
