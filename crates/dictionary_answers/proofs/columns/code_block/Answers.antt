use Rattle.std.proofs.Common.{◌<◌, ◌+◌, ◌∷◌, [], ℕ, List, sym, subst, take, get_or, rules, arith}
use Rattle.scan_base.specs.declared.value.Value.{Value}
use Rattle.scan_base.specs.declared.value.Value.TheVariants.{Null}
use Rattle.arrays.specs.Column.{slot_of, values_of}
use Rattle.dictionary_answers.specs.Firsts.{bytes_in, firsts, firsts_behind}
use Rattle.dictionary_answers.specs.inside.CodedTexts.{coded_texts_at}
use Rattle.dictionary_answers.specs.inside.Coding.{Finds, room_of}
use Rattle.dictionary_answers.specs.inside.PackedPlaces.{numbers_in}
use Rattle.dictionary_answers.specs.inside.Table.{IsTable}
use Rattle.dictionary_answers.proofs.Indexed.{index_led, room_for, slot_within}
use Rattle.dictionary_answers.proofs.Slots.{coded_on, few_texts, none_fit}
use Rattle.dictionary_answers.proofs.columns.code_block.Goals as goal

pub code-index-requires : goal.code-index-requires
code-index-requires g c =
    let column = c.args.block.now.of.now.column.now in
    let cells = c.args.block.now.of.now.cells in
    let place = c.loop-place.place in
    let low : place < column.len = omega (arith, c.loop-place-test.true, c.requires.block.within) in
    room_for cells g.E.Code.WIDTH (c.first-first.result + place) c.values-values.result.now c.requires.block.wide c.values-values.ensures c.len-slots.ensures.stands
    (slot_within column cells c.first-first.result place c.requires.block.cells c.first-first.ensures c.len-count.ensures.stands low)

pub place_of_index-requires-clause-few : goal.place_of_index-requires-clause-few
place_of_index-requires-clause-few g c =
    let found = c.loop-place.found in
    omega (
      arith,
      few_texts (slot_of c.args.block.now.of.now.column.now) c.loop-place.place (room_of found) (coded_texts_at found (take c.loop-place.place (numbers_in c.loop-place.packed))) c.loop-place.invariant.coded,
      c.loop-place-test.true,
      c.requires.block.within,
      c.requires.small,
    )

pub place_of_index-requires-clause-table : goal.place_of_index-requires-clause-table
place_of_index-requires-clause-table g c = subst (λ (d : List Value). IsTable d c.loop-place.found.texts c.loop-place.table) (sym c.dictionary-dictionary.ensures) c.loop-place.invariant.table

pub place_of_index-requires-clause-within : goal.place_of_index-requires-clause-within
place_of_index-requires-clause-within g c =
    let column = c.args.block.now.of.now.column.now in
    let cells = c.args.block.now.of.now.cells in
    let place = c.loop-place.place in
    let low : place < column.len = omega (arith, c.loop-place-test.true, c.requires.block.within) in
    let led = index_led column cells g.E.Code.WIDTH c.first-first.result place c.code-index.result c.values-values.result.now c.dictionary-dictionary.result.now c.requires.block.cells c.requires.block.wide
    c.values-values.ensures c.dictionary-dictionary.ensures c.first-first.ensures c.len-slots.ensures.stands c.len-count.ensures.stands c.requires.block.valid low c.code-index.ensures in
    led.0

pub returns-in_err-number-clause-full : goal.returns-in_err-number-clause-full
returns-in_err-number-clause-full g c =
    let found = c.loop-place.found in
    let column = c.args.block.now.of.now.column.now in
    let cells = c.args.block.now.of.now.cells in
    let place = c.loop-place.place in
    let low : place < column.len = omega (arith, c.loop-place-test.true, c.requires.block.within) in
    let led = index_led column cells g.E.Code.WIDTH c.first-first.result place c.code-index.result c.values-values.result.now c.dictionary-dictionary.result.now c.requires.block.cells c.requires.block.wide
    c.values-values.ensures c.dictionary-dictionary.ensures c.first-first.ensures c.len-slots.ensures.stands c.len-count.ensures.stands c.requires.block.valid low c.code-index.ensures in
    let step : bytes_in found.texts + found.left < bytes_in (firsts_behind found.texts (get_or c.dictionary-dictionary.result.now c.code-index.result Null ∷ [])) → room_of c.args.found.now < bytes_in (firsts (values_of column)) =
    λ full. subst (λ (room : ℕ). room < bytes_in (firsts (values_of column))) c.loop-place.invariant.room
    (none_fit (slot_of column) place column.len (room_of found) (coded_texts_at found (take place (numbers_in c.loop-place.packed))) c.loop-place.invariant.coded low
    (subst (λ (v : Value). bytes_in found.texts + found.left < bytes_in (firsts_behind found.texts (v ∷ []))) led.1 full)) in
    search (rules, step)

pub loop-place-preserved : goal.loop-place-preserved
loop-place-preserved g c =
    let column = c.args.block.now.of.now.column.now in
    let cells = c.args.block.now.of.now.cells in
    let place = c.loop-place.place in
    let low : place < column.len = omega (arith, c.loop-place-test.true, c.requires.block.within) in
    let led = index_led column cells g.E.Code.WIDTH c.first-first.result place c.code-index.result c.values-values.result.now c.dictionary-dictionary.result.now c.requires.block.cells c.requires.block.wide
    c.values-values.ensures c.dictionary-dictionary.ensures c.first-first.ensures c.len-slots.ensures.stands c.len-count.ensures.stands c.requires.block.valid low c.code-index.ensures in
    record {
      coded = coded_on column place c.loop-place.found c.place_of_index.new.self c.loop-place.packed c.put_number.new.bytes c.in_ok-number.number
          (omega (arith, low, c.requires.long, c.loop-place.auto.packed)) c.put_number.ensures c.loop-place.invariant.coded
          (subst (λ (v : Value). Finds c.loop-place.found c.place_of_index.new.self c.in_ok-number.number v) led.1 c.in_ok-number.ensures.found);
      room = omega (arith, c.in_ok-number.ensures.found.bytes, c.loop-place.invariant.room);
      table = subst (λ (d : List Value). IsTable d c.place_of_index.new.self.texts c.place_of_index.new.table) c.dictionary-dictionary.ensures c.in_ok-number.ensures.table;
    }
