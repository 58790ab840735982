use Rattle.std.proofs.Common.{ℕ, map, take, subst, arith}
use Rattle.std.specs.List.{range_with_len}
use Rattle.arrays.specs.Column.{slot_of}
use Rattle.dictionary_answers.specs.inside.CodedTexts.{AreCoded, coded_texts_at}
use Rattle.dictionary_answers.specs.inside.PackedPlaces.{numbers_in}
use Rattle.dictionary_answers.proofs.Slots.{slots_all}
use Rattle.dictionary_answers.proofs.columns.code_valid.Goals as goal

pub returns-clause-coded : goal.returns-clause-coded
returns-clause-coded g c =
    let column = c.args.of.now.column.now in
    let from = c.loop-from.from in
    slots_all (slot_of column) from column.len c.args.found.now.left c.loop-from.found c.loop-from.packed
    (omega (arith, c.requires.long, c.loop-from.auto.packed)) (omega (arith, c.loop-from-test.false, c.len-count.ensures.count)) (omega (arith, c.loop-from.invariant.within, c.len-count.ensures.count))
    (subst (λ (room : ℕ). AreCoded (map (slot_of column) (range_with_len 0 from)) room (coded_texts_at c.loop-from.found (take from (numbers_in c.loop-from.packed))))
    c.loop-from.invariant.room c.loop-from.invariant.coded)
