use Rattle.std.specs.Prelude.{IsTrue}
use Rattle.std.proofs.Common.{◌-◌, ◌&&◌, ℕ, List, length, nat_lt, slice_get, slice_index_or, option_map, ap, sym, ◌∙◌, subst}
use Rattle.std.proofs.lemmas.Bool.{and_parts}
use Rattle.arrays.specs.Batch.{BatchAt}
use Rattle.batch_stats.specs.Columns.{stats_in}
use Rattle.batch_stats.specs.Sides.{side_at}
use Rattle.rewrite.specs.Conjuncts.{is_between}
use Rattle.typed_plan.specs.declared.plan.Columns.{Columns}
use Rattle.typed_plan.specs.declared.plan.Columns.TheVariants.{These}
use Rattle.typed_plan.specs.TypedPlans.{has_columns}
use Rattle.batch_skipping.specs.OpenedBatches.{given_columns, given_width}
use Rattle.batch_skipping.specs.inside.JudgedBatches.{batch_columns}
use Rattle.batch_skipping.proofs.Found.{found_stats, found_these}
use Rattle.batch_skipping.proofs.place_filter.PlaceBatchColumnStatsUsize.side.Goals as goal

pub returns-in-All : goal.returns-in-All
returns-in-All c =
    let of = c.args.self.now in
    let column = c.args.column.now - of.place.first in
    found_stats (slice_get of.table.now.batches of.index) column (side_at c.side.result) c.side.ensures.stats
    ∙ ap (λ (given : Columns). stats_in (given_columns given (batch_columns of.table.now of.index)) column) (sym c.in-All.is)

pub returns-in-These : goal.returns-in-These
returns-in-These c =
    let of = c.args.self.now in
    let place = of.place in
    let table = of.table.now in
    let width = length table.schema.fields in
    let column = c.args.column.now in
    let numbers = c.in-These.numbers in
    let test = λ (given : Columns). has_columns width given && is_between place.first (given_width given width) column in
    let has = subst (λ (given : Columns). IsTrue (nat_lt of.index (length table.batches) && test given)) c.in-These.is c.requires in
    let stats =
    ap (λ (some : List ℕ). option_map (λ (batch : BatchAt). stats_in batch.columns (slice_index_or some (column - place.first) 0)) (slice_get table.batches of.index))
    (sym c.as_slice.ensures) ∙ c.side-in-These.ensures.stats in
    found_these (slice_get table.batches of.index) numbers width place.first column (side_at c.side-in-These.result) c.side-in-These.ensures.wide
    (and_parts (nat_lt of.index (length table.batches)) (test (These numbers)) has).1 stats
    ∙ ap (λ (given : Columns). stats_in (given_columns given (batch_columns table of.index)) (column - place.first)) (sym c.in-These.is)
