use Rattle.std.proofs.Common.{◌≡◌, ◌∙◌, length, sym, ap, subst, true, arith}
use Rattle.arrays.specs.Indices.{IndicesAt, index_stands}
use Rattle.arrays.specs.Number.{integer_at}
use Rattle.arrays.specs.inside.PlacedIndices.{IsPlaced}
use Rattle.arrays.proofs.EachSlot.{slots_more, all_pass}
use Rattle.arrays.proofs.Placed.{placed_stands}
use Rattle.arrays.proofs.indices.IndexParts.slots_stand.Goals as goal

pub returns-then-are_placed : goal.returns-then-are_placed
returns-then-are_placed c =
    let cells = c.args.self.now in
    let count = ap (λ (cells : IndicesAt). cells.len) c.self.view_is in
    let entries = c.len-count.ensures.count ∙ ap (λ (cells : IndicesAt). length cells.dictionary) c.self.view_is in
    sym (all_pass (index_stands cells) 0 cells.len
    (λ place first low. placed_stands cells c.len-count.result place (omega (arith, entries))
    (subst (λ (cells : IndicesAt). IsPlaced c.len-count.result (integer_at cells.index cells.values place)) c.self.view_is
    (c.are_placed.ensures c.if-are_placed.true place (omega (arith, count))))))

pub loop-place-preserved : goal.loop-place-preserved
loop-place-preserved c =
    let stands : index_stands c.args.self.now c.loop-place.place ≡ true = sym c.slot_stands.ensures ∙ c.if-not-slot_stands.false in
    let count = ap (λ (cells : IndicesAt). cells.len) c.self.view_is in
    sym (slots_more (index_stands c.args.self.now) c.loop-place.place c.args.self.now.len (omega (arith, count)) stands) ∙ c.loop-place.invariant
