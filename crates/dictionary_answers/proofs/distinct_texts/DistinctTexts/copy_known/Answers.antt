use Rattle.std.proofs.Common.{◌≡◌, ◌≢◌, ◌<◌, ◌+◌, ◌∙◌, ℕ, false, not, Some, sym, subst, get_or, slice_index, refl, arith}
use Rattle.std.proofs.Math.Dec.{eqb}
use Rattle.std.proofs.lemmas.Bool.{and_parts}
use Rattle.scan_base.specs.declared.value.Value.{Value}
use Rattle.scan_base.specs.declared.value.Value.TheVariants.{Null}
use Rattle.dictionary_answers.specs.Firsts.{Leads}
use Rattle.dictionary_answers.specs.inside.Coding.{Finds}
use Rattle.dictionary_answers.proofs.Adding.{finds_known}
use Rattle.dictionary_answers.proofs.Indexed.{index_led, room_for, slot_within}
use Rattle.dictionary_answers.proofs.Slots.{coded_on, coded_still}
use Rattle.dictionary_answers.proofs.distinct_texts.DistinctTexts.copy_known.Goals as goal

pub code-requires : goal.code-requires
code-requires g c =
    let column = c.args.block.now.of.now.column.now in
    let cells = c.args.block.now.of.now.cells in
    let place = c.loop-place.place in
    let low : place < column.len = omega (arith, c.loop-place-test.true, c.requires.block.within) in
    room_for cells g.E.Code.WIDTH (c.first-first.result + place) c.values-values.result.now c.requires.block.wide c.values-values.ensures c.len-slots.ensures.stands
    (slot_within column cells c.first-first.result place c.requires.block.cells c.first-first.ensures c.len-count.ensures.stands low)

pub table_entry-number-requires : goal.table_entry-number-requires
table_entry-number-requires g c =
    let column = c.args.block.now.of.now.column.now in
    let cells = c.args.block.now.of.now.cells in
    let place = c.loop-place.place in
    let low : place < column.len = omega (arith, c.loop-place-test.true, c.requires.block.within) in
    let led = index_led column cells g.E.Code.WIDTH c.first-first.result place c.code.result c.values-values.result.now cells.dictionary c.requires.block.cells c.requires.block.wide
    c.values-values.ensures refl c.first-first.ensures c.len-slots.ensures.stands c.len-count.ensures.stands c.requires.block.valid low c.code.ensures in
    omega (arith, led.0, c.requires.table.long)

pub loop-place-preserved : goal.loop-place-preserved
loop-place-preserved g c =
    let column = c.args.block.now.of.now.column.now in
    let cells = c.args.block.now.of.now.cells in
    let found = c.args.self.now in
    let place = c.loop-place.place in
    let number = c.table_entry-number.result in
    let low : place < column.len = omega (arith, c.loop-place-test.true, c.requires.block.within) in
    let led = index_led column cells g.E.Code.WIDTH c.first-first.result place c.code.result c.values-values.result.now cells.dictionary c.requires.block.cells c.requires.block.wide
    c.values-values.ensures refl c.first-first.ensures c.len-slots.ensures.stands c.len-count.ensures.stands c.requires.block.valid low c.code.ensures in
    record {
      before = coded_still column c.args.block.now.from place number found c.loop-place.packed c.put_number.new.bytes c.loop-place.auto.place c.put_number.ensures c.loop-place.invariant.before;
      known = λ known.
          let both = and_parts c.loop-place.are_known (not (eqb number 4294967295)) known in
          let other : number ≢ 4294967295 = λ is. absurd (let no : not (eqb number 4294967295) ≡ false = rw is refl in let wrong : ⊥ = cc in wrong) in
          let is : slice_index c.args.table.now c.code.result ≡ number = sym c.table_entry-number.ensures in
          let met : Leads found.texts (Some number) (get_or cells.dictionary c.code.result Null) =
          subst (λ (n : ℕ). Leads found.texts (Some n) (get_or cells.dictionary c.code.result Null)) is
          (c.requires.table.met c.code.result (omega (arith, led.0, c.requires.table.long)) (λ e. other (sym is ∙ e))) in
          coded_on column place found found c.loop-place.packed c.put_number.new.bytes number (omega (arith, low, c.requires.long, c.loop-place.auto.packed)) c.put_number.ensures
          (c.loop-place.invariant.known both.0) (subst (λ (v : Value). Finds found found number v) led.1 (finds_known found number (get_or cells.dictionary c.code.result Null) other met));
    }
