use Rattle.std.proofs.Common.{◌≡◌, ◌<◌, ◌≤◌, ◌-◌, ◌+◌, ℕ, List, [], ◌∷◌, All, length, get_or, refl, ap, sym, subst, ◌∙◌, rules, arith}
use Rattle.std.specs.List.{range_with_len}
use Rattle.arrays.specs.Batch.{row_of}
use Rattle.array_select.specs.Selection.{AreRising}
use Rattle.row_sources.specs.declared.batch_slice.BatchSlice.{BatchSlice}
use Rattle.row_sources.specs.Picking.{PickAt, holds, chosen_rows, pick_of}
use Rattle.row_sources.proofs.Giving.{gives, gives_none}
use Rattle.row_sources.proofs.Selecting.{chosen_below, next_to_each_other}
use Rattle.row_sources.proofs.picker.Picker.selected.Goals as goal

no_rows : (rows : List ℕ) → length rows ≡ 0 → rows ≡ []
no_rows [] e = refl
no_rows (row ∷ rows) e = absurd (omega (arith, e))

-- the rows that are chosen are rows of the batch
below : (pick : PickAt) (part : BatchSlice) (rows : List ℕ) (most : ℕ) → part.from + (part.to - part.from) ≤ most → rows ≡ chosen_rows pick part →
    All (λ (row : ℕ). row < most) rows
below pick part rows most high e =
    subst (λ (some : List ℕ). All (λ (row : ℕ). row < most) some) (sym e)
    (chosen_below (λ row. holds pick (row_of part.batch.now.columns row)) part.from (part.to - part.from) most high)

pub returns-then-is_empty : goal.returns-then-is_empty
returns-then-is_empty c =
    let none : length c.places-rows.result.now ≡ 0 = search (rules, c.is_empty.ensures, c.if-is_empty.true) in
    gives_none (pick_of c.args.self.now) c.args.part.now c.requires.pick
    (sym c.requires.selected ∙ sym c.places-rows.ensures.value ∙ no_rows c.places-rows.result.now none)

pub gather_of-requires-clause-within : goal.gather_of-requires-clause-within
gather_of-requires-clause-within c =
    below (pick_of c.args.self.now) c.args.part.now c.args.selection.now c.args.part.now.batch.now.rows
    (omega (arith, c.requires.within, c.requires.ordered)) c.requires.selected

pub slice_of-requires-clause-within : goal.slice_of-requires-clause-within
slice_of-requires-clause-within c =
    let rows = c.places-rows.result.now in
    let some : 0 < length rows = search (rules, c.is_empty.ensures, c.if-is_empty.false) in
    let last = below (pick_of c.args.self.now) c.args.part.now rows c.args.part.now.batch.now.rows
    (omega (arith, c.requires.within, c.requires.ordered)) (c.places-rows.ensures.value ∙ c.requires.selected) (length rows - 1) 0
    (omega (arith, some)) in
    omega (arith, last)

pub returns-then-to-from : goal.returns-then-to-from
returns-then-to-from c =
    let some : 0 < length c.places-rows.result.now = search (rules, c.is_empty.ensures, c.if-is_empty.false) in
    gives (pick_of c.args.self.now) c.args.part.now c.requires.pick c.args.selection.now
    c.in_ok-gather_of.field-0 c.requires.selected (omega (arith, some, ap length c.places-rows.ensures.value))
    (rw c.as_slice-shown.ensures.value at c.in_ok-gather_of.ensures)

pub returns : goal.returns
returns c =
    let rows = c.places-rows.result.now in
    let first = get_or rows 0 0 in
    let last = get_or rows (length rows - 1) 0 in
    let some : 0 < length rows = search (rules, c.is_empty.ensures, c.if-is_empty.false) in
    let run = next_to_each_other rows first last (subst AreRising (sym c.places-rows.ensures.value) c.places-rows.ensures.rising) some refl refl (omega (arith, c.if-to-from.false)) in
    gives (pick_of c.args.self.now) c.args.part.now c.requires.pick
    (range_with_len first (last + 1 - first)) c.in_ok-slice_of.field-0 (sym run ∙ c.places-rows.ensures.value ∙ c.requires.selected)
    (omega (arith, some, ap length run)) (rw c.as_slice-shown.ensures.value at c.in_ok-slice_of.ensures)
