-- Batches that are judged by some conjuncts.
use Rattle.std.specs.Prelude.{ℕ, ◌-◌, Bool, ◌&&◌, List, [], Option, Some, None, slice_get}
use Rattle.std.specs.List.{filter, list_all, range_with_len}
use Rattle.std.specs.Option.{option_to_list}
use Rattle.arrays.specs.Batch.{BatchAt}
use Rattle.arrays.specs.Column.{ColumnAt}
use Rattle.batch_skipping.specs.PredicateTruths.{can}
use Rattle.batch_stats.specs.Columns.{stats_in}
use Rattle.scan_base.specs.Predicate.{Pred}
use Rattle.table_versions.specs.StoredTables.{TableAt}
use Rattle.typed_plan.specs.declared.plan.Columns.{Columns}
use Rattle.batch_skipping.specs.OpenedBatches.{given_columns, has_row_in}

-- the columns of a batch; of one that is not there none
abbrev pub columns_of : Option BatchAt → List ColumnAt
columns_of (Some batch) = batch.columns
columns_of None = []

-- the columns of batch i of a table
abbrev pub batch_columns : TableAt → ℕ → List ColumnAt
batch_columns table i = columns_of (slice_get table.batches i)

-- whether each of these can be true in a batch of these columns, of which the first has this number
abbrev pub all_can : List (Pred ℕ) → ℕ → List ColumnAt → Bool
all_can parts first columns =
    list_all (λ part. (can (λ number. stats_in columns (number - first)) part).can_true) parts

-- whether batch i of a table has one of these rows, and each of these can be true in it
abbrev pub is_judged : List (Pred ℕ) → ℕ → Columns → ℕ → ℕ → TableAt → ℕ → Bool
is_judged parts first columns from to table i =
    has_row_in from to table.batches i
    && list_all (λ (batch : BatchAt). all_can parts first (given_columns columns batch.columns))
    (option_to_list (slice_get table.batches i))

-- the numbers of those among the first n batches
abbrev pub judged_before : List (Pred ℕ) → ℕ → Columns → ℕ → ℕ → TableAt → ℕ → List ℕ
judged_before parts first columns from to table n =
    filter (is_judged parts first columns from to table) (range_with_len 0 n)
