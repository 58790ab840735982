use Rattle.std.proofs.Common.{◌≡◌, ◌≤◌, ◌<◌, ℕ, ◌+◌, List, [], ◌∷◌, ◌++◌, length, nat_lt, get_or, slice_get, Option, Some, true, refl, sym, ap, ◌∙◌, subst, arith, rules, append-nil}
use Rattle.std.specs.List.{flat_map}
use Rattle.std.specs.Option.{option_to_list}
use Rattle.std.proofs.lemmas.Bool.{and_from, lt-ltb}
use Rattle.arrays.specs.Batch.{BatchAt, rows_of}
use Rattle.table_versions.specs.StoredTables.{TableAt}
use Rattle.table_versions.proofs.Rowing.{rows-cons}
use Rattle.batch_skipping.specs.Narrow.{CanNarrow, batches_at, narrowed}
use Rattle.row_sources.proofs.Cells.{within_at}
use Rattle.row_sources.proofs.NarrowRange.{before_next}
use Rattle.row_sources.proofs.Narrowing.{at_any, at_many, at_number}
use Rattle.row_sources.proofs.Opening.{in_all}
use Rattle.row_sources.specs.declared.opened_table.OpenedTable.TheInside.{Inside}
use Rattle.row_sources.proofs.opened_table.OpenedTable.only.Goals as goal

low : (s : Inside) (view : TableAt) (index : ℕ) → CanNarrow s.table s.numbers.items s.rows → narrowed s.numbers.items s.table ≡ view →
    index < length view.batches → index < length s.numbers.items
low s view index can is h = omega (arith, h, ap (λ (table : TableAt). length table.batches) is, at_many s.table.batches s.numbers.items can.there)

-- one batch of a table
module _ (s : Inside) (can : CanNarrow s.table s.numbers.items s.rows) (index number : ℕ) (here : index < length s.numbers.items) (is : number ≡ get_or s.numbers.items index 0)
    (batch : BatchAt) (found : slice_get s.table.batches number ≡ Some batch) where
  there : number < length s.table.batches
  there = omega (arith, is, within_at (length s.table.batches) s.numbers.items index can.there here)

  same : slice_get (batches_at s.numbers.items s.table.batches) index ≡ slice_get s.table.batches number
  same = at_number s.table.batches s.numbers.items index can.there here ∙ ap (slice_get s.table.batches) (sym is)

  few_rows : batch.rows ≤ s.rows
  few_rows =
      let some = batches_at s.numbers.items s.table.batches in
      let next = before_next 0 0 some index batch (same ∙ found) in
      let all = in_all some (index + 1) (omega (arith, here, at_many s.table.batches s.numbers.items can.there)) in
      omega (arith, next, all, can.counted)

  can_one : (rows : ℕ) → rows ≡ batch.rows → CanNarrow s.table (number ∷ []) rows
  can_one rows size = record {
    there = and_from (nat_lt number (length s.table.batches)) true (lt-ltb number (length s.table.batches) there) refl;
    counted =
        let one = ap (λ (some : Option BatchAt). length (flat_map rows_of (option_to_list some ++ []))) found in
        let long = rows-cons batch [] in
        omega (arith, size, one, long);
    few = omega (arith, size, few_rows, can.few);
  }

  one_is : (view : TableAt) → narrowed s.numbers.items s.table ≡ view →
      narrowed (number ∷ []) s.table ≡ record view { batches = option_to_list (slice_get view.batches index) }
  one_is view v =
      ap (λ (some : List BatchAt). record s.table { batches = some }) (append-nil (option_to_list (slice_get s.table.batches number)) ∙ ap option_to_list (sym same))
      ∙ ap (λ (table : TableAt). record table { batches = option_to_list (slice_get table.batches index) }) v

pub index-number-requires : goal.index-number-requires
index-number-requires c = search (rules, low c.self.inside c.args.self.now c.args.index c.self.invariant c.self.view_is c.requires)

pub batch-requires : goal.batch-requires
batch-requires c =
    let s = c.self.inside in
    let here = low s c.args.self.now c.args.index c.self.invariant c.self.view_is c.requires in
    omega (arith, c.index-number.ensures, at_any s.numbers.items c.args.index c.index-number.result.now 0 here, within_at (length s.table.batches) s.numbers.items c.args.index c.self.invariant.there here)

pub new-requires : goal.new-requires
new-requires c =
    let s = c.self.inside in
    let number = c.index-number.result.now in
    let here = low s c.args.self.now c.args.index c.self.invariant c.self.view_is c.requires in
    let is = c.index-number.ensures ∙ at_any s.numbers.items c.args.index number 0 here in
    let items : c.push.new.self.items ≡ number ∷ [] = c.in_ok-push.ensures.items ∙ ap (λ (some : List ℕ). some ++ number ∷ []) c.in_ok-numbers.ensures.items in
    subst (λ (table : TableAt). CanNarrow table c.push.new.self.items c.rows-rows.result) (sym c.in_ok-share.ensures)
    (subst (λ (numbers : List ℕ). CanNarrow s.table numbers c.rows-rows.result) (sym items)
    (can_one s c.self.invariant c.args.index number here is c.batch.result.now c.batch.ensures.batch c.rows-rows.result c.rows-rows.ensures))

pub returns : goal.returns
returns c =
    let s = c.self.inside in
    let number = c.index-number.result.now in
    let here = low s c.args.self.now c.args.index c.self.invariant c.self.view_is c.requires in
    let is = c.index-number.ensures ∙ at_any s.numbers.items c.args.index number 0 here in
    let items : c.push.new.self.items ≡ number ∷ [] = c.in_ok-push.ensures.items ∙ ap (λ (some : List ℕ). some ++ number ∷ []) c.in_ok-numbers.ensures.items in
    c.new.ensures ∙ ap (λ (numbers : List ℕ). narrowed numbers c.in_ok-share.field-0) items ∙ ap (narrowed (number ∷ [])) c.in_ok-share.ensures
    ∙ one_is s c.self.invariant c.args.index number here is c.batch.result.now c.batch.ensures.batch c.args.self.now c.self.view_is
