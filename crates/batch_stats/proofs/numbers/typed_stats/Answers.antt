use Rattle.std.proofs.Common.{◌≡◌, ℕ, ℤ, List, ap, ◌∙◌}
use Rattle.std.proofs.Math.Nat.{le_trans, mul-le-mul_left}
use Rattle.arrow_types.specs.declared.data_type.IntegerType.{IntegerType}
use Rattle.arrays.specs.Number.{byte_width, element_at, integer_at}
use Rattle.batch_stats.proofs.Numerals.{integers_are}
use Rattle.batch_stats.proofs.numbers.typed_stats.Goals as goal

pub numbers_stats-requires-clause-room : goal.numbers_stats-requires-clause-room
numbers_stats-requires-clause-room g c =
    let cells = c.args.cells.now in
    rw (g.met.E.Integer.same_width, c.requires.kind, c.values.ensures)
    (le_trans (mul-le-mul_left (byte_width cells.integer) c.requires.within) c.len-count.ensures.stands.values)

pub returns : goal.returns
returns g c =
    let cells = c.args.cells.now in
    let of : List ℕ → ℕ → ℤ = λ v place. g.E.Number.value (g.E.FixedWidth.of_bits (element_at g.E.Element.WIDTH v place)) in
    let same : (place : ℕ) → of c.values.result.now place ≡ integer_at cells.integer cells.values place = λ place.
    ap (λ v. of v place) c.values.ensures ∙ g.met.E.Integer.same_number cells.values place
    ∙ ap (λ (t : IntegerType). integer_at t cells.values place) c.requires.kind in
    integers_are c.args.first c.args.len c.numbers_stats.result c.validity.result.now (of c.values.result.now) c.numbers_stats.ensures.ends c.numbers_stats.ensures.slots cells c.validity.ensures same
