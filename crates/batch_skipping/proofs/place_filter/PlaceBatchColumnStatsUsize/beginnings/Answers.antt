use Rattle.std.specs.Prelude.{IfSome, IsTrue}
use Rattle.std.proofs.Common.{◌≡◌, ◌-◌, ◌&&◌, ℕ, List, length, nat_lt, slice_get, slice_index_or, Some, sym, subst}
use Rattle.std.proofs.lemmas.Bool.{and_parts}
use Rattle.arrays.specs.Batch.{BatchAt}
use Rattle.batch_stats.specs.Beginnings.{AreBeginnings}
use Rattle.batch_stats.specs.Columns.{stats_in}
use Rattle.rewrite.specs.Conjuncts.{is_between}
use Rattle.typed_plan.specs.declared.plan.Columns.{Columns}
use Rattle.typed_plan.specs.declared.plan.Columns.TheVariants.{These}
use Rattle.typed_plan.specs.TypedPlans.{has_columns}
use Rattle.batch_skipping.specs.OpenedBatches.{given_columns, given_width}
use Rattle.batch_skipping.specs.inside.JudgedBatches.{batch_columns}
use Rattle.batch_skipping.proofs.Found.{begun_these, found_beginnings}
use Rattle.batch_skipping.proofs.place_filter.PlaceBatchColumnStatsUsize.beginnings.Goals as goal

pub returns-in-All : goal.returns-in-All
returns-in-All c =
    let of = c.args.self.now in
    let column = c.args.column.now - of.place.first in
    subst (λ (given : Columns). IfSome c.beginnings.result (λ known. AreBeginnings known (stats_in (given_columns given (batch_columns of.table.now of.index)) column)))
    (sym c.in-All.is) (found_beginnings of.table.now.batches of.index column c.beginnings.result c.beginnings.ensures.beginnings)

pub returns-in-These : goal.returns-in-These
returns-in-These c =
    let of = c.args.self.now in
    let place = of.place in
    let table = of.table.now in
    let width = length table.schema.fields in
    let column = c.args.column.now in
    let numbers = c.in-These.numbers in
    let found = c.beginnings-in-These.result in
    let test = λ (given : Columns). has_columns width given && is_between place.first (given_width given width) column in
    let has = subst (λ (given : Columns). IsTrue (nat_lt of.index (length table.batches) && test given)) c.in-These.is c.requires in
    let is =
    subst (λ (some : List ℕ). IfSome found (λ known. (batch : BatchAt) × (slice_get table.batches of.index ≡ Some batch)
    × AreBeginnings known (stats_in batch.columns (slice_index_or some (column - place.first) 0))))
    c.as_slice.ensures c.beginnings-in-These.ensures.beginnings in
    subst (λ (given : Columns). IfSome found (λ known. AreBeginnings known (stats_in (given_columns given (batch_columns table of.index)) (column - place.first))))
    (sym c.in-These.is)
    (begun_these table.batches of.index numbers width place.first column found c.beginnings-in-These.ensures.wide
    (and_parts (nat_lt of.index (length table.batches)) (test (These numbers)) has).1 is)
