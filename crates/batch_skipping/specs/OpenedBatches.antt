-- Which batches of its tables a plan opens.
use Rattle.std.specs.Prelude.{ℕ, ◌+◌, ◌-◌, Bool, ◌&&◌, List, [], ◌∷◌, ◌++◌, length, map, nat_lt}
use Rattle.std.specs.Prelude.{max, min, slice_get}
use Rattle.std.specs.List.{filter, list_all, range_with_len}
use Rattle.std.specs.Option.{option_to_list}
use Rattle.arrays.specs.Batch.{BatchAt}
use Rattle.arrays.specs.Column.{ColumnAt}
use Rattle.batch_skipping.specs.PredicateTruths.{can}
use Rattle.batch_stats.specs.Columns.{stats_in}
use Rattle.rewrite.specs.Conjuncts.{conjuncts, is_between}
use Rattle.scan_base.specs.Predicate.{Pred, names_only}
use Rattle.table_versions.specs.Standing.{rows_before}
use Rattle.table_versions.specs.StoredTables.{TableAt, table_of}
use Rattle.typed_plan.specs.declared.plan.Columns.{Columns}
use Rattle.typed_plan.specs.declared.plan.Columns.TheVariants.{All, These}
use Rattle.typed_plan.specs.Plan.{Tree, scan, filtered, joined}
use Rattle.typed_plan.specs.View.{BoundAt, plan_of}
use Rattle.batch_skipping.specs.ChosenColumns.{columns_at}

-- whether batch i has one of the rows `from` up to, not with, `to` of its table
abbrev pub has_row_in : ℕ → ℕ → List BatchAt → ℕ → Bool
has_row_in from to batches i =
    nat_lt (max (rows_before batches i) from) (min (rows_before batches (i + 1)) to)

-- the numbers, counted from 0 and in order, of the batches that have one of these rows
abbrev pub batches_in : ℕ → ℕ → List BatchAt → List ℕ
batches_in from to batches = filter (has_row_in from to batches) (range_with_len 0 (length batches))

-- the conjuncts of a plan's outermost filters: of a bound query those of its WHERE
abbrev pub where_parts : Tree → List (Pred ℕ)
where_parts (filtered predicate tree) = conjuncts predicate ++ where_parts tree
where_parts _ = []

-- the columns that the scan of each place gives, place by place
abbrev pub scans_of : Tree → List Columns
scans_of (scan table schema columns) = columns ∷ []
scans_of (filtered predicate tree) = scans_of tree
scans_of (joined left right on) = scans_of left ++ scans_of right

-- the columns of a batch that a scan gives
abbrev pub given_columns : Columns → List ColumnAt → List ColumnAt
given_columns All columns = columns
given_columns (These numbers) columns = columns_at numbers columns

-- how many of so many columns a scan gives
abbrev pub given_width : Columns → ℕ → ℕ
given_width All width = width
given_width (These numbers) width = length numbers

-- Whether a batch can hold a row that is kept: each conjunct that names no column of another place
-- can be true, by the statistics of the batch. `first` is the number of the place's first column
-- among those of all places.
abbrev pub can_hold : List (Pred ℕ) → ℕ → ℕ → List ColumnAt → Bool
can_hold parts first width columns =
    list_all (λ part. (can (λ number. stats_in columns (number - first)) part).can_true)
    (filter (names_only (is_between first width)) parts)

-- whether batch i of a table can, where a scan gives these columns of it
abbrev pub batch_can : List (Pred ℕ) → ℕ → Columns → TableAt → ℕ → Bool
batch_can parts first columns table i =
    list_all (λ (batch : BatchAt). can_hold parts first
    (given_width columns (length table.schema.fields)) (given_columns columns batch.columns))
    (option_to_list (slice_get table.batches i))

-- the numbers of the batches of a place that have one of these rows and can hold a row that is kept
abbrev pub place_opened : List (Pred ℕ) → ℕ → Columns → ℕ → ℕ → TableAt → List ℕ
place_opened parts first columns from to table =
    filter (λ i. has_row_in from to table.batches i && batch_can parts first columns table i)
    (range_with_len 0 (length table.batches))

-- those of the first place
abbrev pub first_numbers : List (Pred ℕ) → ℕ → ℕ → List Columns → List TableAt → List ℕ
first_numbers parts from to (columns ∷ scans) (table ∷ tables) =
    place_opened parts 0 columns from to table
first_numbers parts from to _ _ = []

-- those of places of which all rows are read, place by place, where so many columns stand before
-- theirs
abbrev pub numbers_behind : List (Pred ℕ) → ℕ → List Columns → List TableAt → List (List ℕ)
numbers_behind parts first (columns ∷ scans) (table ∷ tables) =
    place_opened parts first columns 0 (length (table_of table).rows) table
    ∷ numbers_behind parts (first + given_width columns (length table.schema.fields)) scans tables
numbers_behind parts first _ _ = []

-- those of the further places
abbrev pub further_numbers : List (Pred ℕ) → List Columns → List TableAt → List (List ℕ)
further_numbers parts (columns ∷ scans) (table ∷ tables) =
    numbers_behind parts (given_width columns (length table.schema.fields)) scans tables
further_numbers parts _ _ = []

-- batches of places that are counted from this number on: the number of the place, and that of the
-- batch
abbrev pub numbered_batches : ℕ → List (List ℕ) → List (ℕ × ℕ)
numbered_batches place [] = []
numbered_batches place (numbers ∷ lists) =
    map (λ batch. (place, batch)) numbers ++ numbered_batches (place + 1) lists

-- the batches of the further places that a plan opens; places are counted from 0
abbrev pub further_opened : BoundAt → List (ℕ × ℕ)
further_opened bound =
    let tree = (plan_of bound).tree in
    numbered_batches 1 (further_numbers (where_parts tree) (scans_of tree) bound.tables)

-- those of the first place, over the rows `from` up to, not with, `to`
abbrev pub first_opened : ℕ → ℕ → BoundAt → List (ℕ × ℕ)
first_opened from to bound =
    let tree = (plan_of bound).tree in
    map (λ batch. (0, batch))
    (first_numbers (where_parts tree) from to (scans_of tree) bound.tables)

-- the numbers of the batches of each place that are opened: of the first place over the rows `from`
-- up to, not with, `to`
abbrev pub opened_numbers : BoundAt → ℕ → ℕ → List (List ℕ)
opened_numbers bound from to =
    let tree = (plan_of bound).tree in
    first_numbers (where_parts tree) from to (scans_of tree) bound.tables
    ∷ further_numbers (where_parts tree) (scans_of tree) bound.tables

-- how many batches of these tables have a row
abbrev pub whole_count : List TableAt → ℕ
whole_count [] = 0
whole_count (table ∷ tables) =
    length (batches_in 0 (length (table_of table).rows) table.batches) + whole_count tables

-- how many batches have a row that is read: of the first table one of the rows `from` up to, not
-- with, `to`, of each other one any
abbrev pub judged_count : ℕ → ℕ → List TableAt → ℕ
judged_count from to [] = 0
judged_count from to (table ∷ tables) =
    length (batches_in from to table.batches) + whole_count tables
