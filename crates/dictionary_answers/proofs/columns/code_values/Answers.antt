use Rattle.std.proofs.Common.{◌<◌, ◌+◌, ◌∷◌, [], sym, subst, take, rules, arith}
use Rattle.scan_base.specs.declared.value.Value.{Value}
use Rattle.scan_base.specs.Value.{value_of, IsTextOrNull}
use Rattle.arrays.specs.Column.{slot_of, values_of}
use Rattle.dictionary_answers.specs.Firsts.{bytes_in, firsts, firsts_behind}
use Rattle.dictionary_answers.specs.inside.CodedTexts.{coded_texts_at}
use Rattle.dictionary_answers.specs.inside.Coding.{Finds}
use Rattle.dictionary_answers.specs.inside.PackedPlaces.{numbers_in}
use Rattle.dictionary_answers.proofs.Slots.{slot_more, slots_all, few_texts, none_fit, slot_is}
use Rattle.dictionary_answers.proofs.columns.code_values.Goals as goal

pub place_of_value-requires-clause-few : goal.place_of_value-requires-clause-few
place_of_value-requires-clause-few c =
    omega (arith, few_texts (slot_of c.args.column.now) c.loop-place.place c.args.found.now.left (coded_texts_at c.loop-place.found (take c.loop-place.place (numbers_in c.loop-place.packed))) c.loop-place.invariant, c.loop-place-test.true, c.requires.long, c.requires.small)

pub place_of_value-requires-clause-text : goal.place_of_value-requires-clause-text
place_of_value-requires-clause-text c =
    let low : c.loop-place.place < c.args.column.now.len = omega (arith, c.loop-place-test.true, c.requires.long) in
    subst IsTextOrNull (sym c.value_at.ensures) (slot_is IsTextOrNull (slot_of c.args.column.now) c.args.column.now.len c.loop-place.place c.requires.texts low)

pub returns-in_err-number-clause-full : goal.returns-in_err-number-clause-full
returns-in_err-number-clause-full c =
    let found = c.loop-place.found in
    let column = c.args.column.now in
    let low : c.loop-place.place < column.len = omega (arith, c.loop-place-test.true, c.requires.long) in
    let step : bytes_in found.texts + found.left < bytes_in (firsts_behind found.texts (value_of c.value_at.result ∷ [])) → c.args.found.now.left < bytes_in (firsts (values_of column)) =
    λ full. none_fit (slot_of column) c.loop-place.place column.len c.args.found.now.left (coded_texts_at found (take c.loop-place.place (numbers_in c.loop-place.packed))) c.loop-place.invariant low
    (subst (λ (v : Value). bytes_in found.texts + found.left < bytes_in (firsts_behind found.texts (v ∷ []))) c.value_at.ensures full) in
    search (rules, step)

pub loop-place-preserved : goal.loop-place-preserved
loop-place-preserved c =
    slot_more (slot_of c.args.column.now) c.loop-place.place c.args.found.now.left c.loop-place.found c.place_of_value.new.self c.loop-place.packed c.put_number.new.bytes c.in_ok-number.number
    (omega (arith, c.loop-place-test.true, c.requires.long)) c.put_number.ensures c.loop-place.invariant
    (subst (λ (v : Value). Finds c.loop-place.found c.place_of_value.new.self c.in_ok-number.number v) c.value_at.ensures c.in_ok-number.ensures.found)

pub returns-clause-coded : goal.returns-clause-coded
returns-clause-coded c =
    slots_all (slot_of c.args.column.now) c.loop-place.place c.args.column.now.len c.args.found.now.left c.loop-place.found c.loop-place.packed
    (omega (arith, c.requires.long)) (omega (arith, c.loop-place-test.false)) (omega arith) c.loop-place.invariant
