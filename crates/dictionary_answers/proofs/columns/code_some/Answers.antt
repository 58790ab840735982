use Rattle.std.proofs.Common.{◌<◌, ◌+◌, ◌∷◌, [], subst, take, rules, arith}
use Rattle.scan_base.specs.declared.value.Value.{Value}
use Rattle.arrays.specs.Layout.{layout_slot}
use Rattle.arrays.specs.declared.layout.Layout.TheVariants as layout
use Rattle.arrays.specs.Column.{slot_of, values_of}
use Rattle.dictionary_answers.specs.Firsts.{bytes_in, firsts, firsts_behind}
use Rattle.dictionary_answers.specs.inside.CodedTexts.{coded_texts_at}
use Rattle.dictionary_answers.specs.inside.Coding.{Finds}
use Rattle.dictionary_answers.specs.inside.PackedPlaces.{numbers_in}
use Rattle.dictionary_answers.proofs.Indexed.{slot_there}
use Rattle.dictionary_answers.proofs.Slots.{slot_more, slots_all, few_texts, none_fit}
use Rattle.dictionary_answers.proofs.columns.code_some.Goals as goal

pub near_place-requires-clause-few : goal.near_place-requires-clause-few
near_place-requires-clause-few g c =
    omega (arith, few_texts (slot_of c.args.of.now.column.now) c.loop-place.place c.args.found.now.left (coded_texts_at c.loop-place.found (take c.loop-place.place (numbers_in c.loop-place.packed))) c.loop-place.invariant.coded, c.loop-place-test.true, c.requires.long, c.requires.small)

pub returns-in_err-number-clause-full : goal.returns-in_err-number-clause-full
returns-in_err-number-clause-full g c =
    let found = c.loop-place.found in
    let column = c.args.of.now.column.now in
    let place = c.loop-place.place in
    let low : place < column.len = omega (arith, c.loop-place-test.true, c.requires.long) in
    let is = slot_there column c.args.of.now.cells c.first-first.result place c.requires.cells c.first-first.ensures in
    let step : bytes_in found.texts + found.left < bytes_in (firsts_behind found.texts (layout_slot (layout.Indices c.args.of.now.cells) (c.first-first.result + place) ∷ [])) → c.args.found.now.left < bytes_in (firsts (values_of column)) =
    λ full. none_fit (slot_of column) place column.len c.args.found.now.left (coded_texts_at found (take place (numbers_in c.loop-place.packed))) c.loop-place.invariant.coded low
    (subst (λ (v : Value). bytes_in found.texts + found.left < bytes_in (firsts_behind found.texts (v ∷ []))) is full) in
    search (rules, step)

pub loop-place-preserved : goal.loop-place-preserved
loop-place-preserved g c =
    let column = c.args.of.now.column.now in
    let place = c.loop-place.place in
    let is = slot_there column c.args.of.now.cells c.first-first.result place c.requires.cells c.first-first.ensures in
    record {
      coded = slot_more (slot_of column) place c.args.found.now.left c.loop-place.found c.near_place.new.found c.loop-place.packed c.put_number.new.bytes c.in_ok-number.number
          (omega (arith, c.loop-place-test.true, c.requires.long)) c.put_number.ensures c.loop-place.invariant.coded
          (subst (λ (v : Value). Finds c.loop-place.found c.near_place.new.found c.in_ok-number.number v) is c.in_ok-number.ensures.found);
      table = c.in_ok-number.ensures.table;
    }

pub returns-clause-coded : goal.returns-clause-coded
returns-clause-coded g c =
    let column = c.args.of.now.column.now in
    slots_all (slot_of column) c.loop-place.place column.len c.args.found.now.left c.loop-place.found c.loop-place.packed
    (omega (arith, c.requires.long)) (omega (arith, c.loop-place-test.false)) (omega arith) c.loop-place.invariant.coded
