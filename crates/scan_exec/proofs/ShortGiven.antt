-- A plan gives no text that is too long, where the rows of its tables have none.
use Rattle.std.proofs.Common.{◌≡◌, ℕ, zero, suc, ◌-◌, ◌==◌, Bool, true, false, if◌then◌else◌, All, List, [], ◌∷◌, ◌++◌, length, map, take, drop, cond, pos, Option, refl, ap, ◌∙◌, fold}
use Rattle.std.specs.List.{list_any, filter, flat_map}
use Rattle.std.proofs.lemmas.List.Folds.{list_any-append, list_any_none}
use Rattle.arrays.specs.Batch.{rows_of}
use Rattle.scan_base.specs.declared.value.Value.{Value}
use Rattle.scan_base.specs.declared.value.Value.TheVariants.{Null, Int}
use Rattle.scan_base.specs.Predicate.{cell_in}
use Rattle.table_versions.specs.StoredTables.{TableAt, table_of}
use Rattle.table_versions.specs.Table.{Row, is_long_text}
use Rattle.table_versions.proofs.Storable.{first_false, second_false}
use Rattle.typed_plan.specs.declared.plan.Aggregate.{Aggregate}
use Rattle.typed_plan.specs.declared.plan.Aggregate.TheVariants.{Key, CountRows, Count, Sum}
use Rattle.typed_plan.specs.declared.plan.Columns.{Columns}
use Rattle.typed_plan.specs.declared.plan.Columns.TheVariants.{All as AllColumns, These}
use Rattle.typed_plan.specs.declared.plan.JoinKey.{JoinKey}
use Rattle.typed_plan.specs.declared.plan.Output.{Output}
use Rattle.typed_plan.specs.declared.plan.Output.TheVariants.{Project, Groups}
use Rattle.typed_plan.specs.GroupedRows.{Group, same_key, with_row, present, plus}
use Rattle.typed_plan.specs.HeldTables.{tree_schemas}
use Rattle.typed_plan.specs.JoinedRows.{rows_between}
use Rattle.typed_plan.specs.Plan.{Tree, scan, filtered, joined, taken, is_true, fits, joined_rows, answered, groups_by, output_rows}
use Rattle.typed_plan.specs.View.{BoundAt, tree_of}
use Rattle.rewrite.specs.Places.{first_rows, rows_over}
use Rattle.row_sources.specs.Parts.{first_batches, further_rows}
use Rattle.scan_exec.specs.GivenRows.{given_of}
use Rattle.scan_exec.proofs.PlanGives.{given_rows}

-- ---- lists of which nothing passes a test

none-take : {X : Type 0} (test : X → Bool) (n : ℕ) (xs : List X) → list_any test xs ≡ false → list_any test (take n xs) ≡ false
none-take test zero xs h = refl
none-take test (suc n) [] h = refl
none-take test (suc n) (x ∷ xs) h =
    rw (first_false (test x) (list_any test xs) h) (none-take test n xs (second_false (test x) (list_any test xs) h))

none-drop : {X : Type 0} (test : X → Bool) (n : ℕ) (xs : List X) → list_any test xs ≡ false → list_any test (drop n xs) ≡ false
none-drop test zero xs h = h
none-drop test (suc n) [] h = refl
none-drop test (suc n) (x ∷ xs) h = none-drop test n xs (second_false (test x) (list_any test xs) h)

none-filter : {X : Type 0} (test chosen : X → Bool) (xs : List X) → list_any test xs ≡ false → list_any test (filter chosen xs) ≡ false
none-filter test chosen [] h = refl
none-filter test chosen (x ∷ xs) h = by (chosen x) (none-filter test chosen xs (second_false (test x) (list_any test xs) h))
  where
    by : (b : Bool) → list_any test (filter chosen xs) ≡ false → list_any test (cond b (x ∷ filter chosen xs) (filter chosen xs)) ≡ false
    by true rest = rw (first_false (test x) (list_any test xs) h) rest
    by false rest = rest

none-append : {X : Type 0} (test : X → Bool) (xs ys : List X) → list_any test xs ≡ false → list_any test ys ≡ false →
    list_any test (xs ++ ys) ≡ false
none-append test xs ys first rest = list_any-append test xs ys ∙ rw (first, rest) refl

none-map : {X Y : Type 0} (before : X → Bool) (test : Y → Bool) (f : X → Y) → ((x : X) → before x ≡ false → test (f x) ≡ false) →
    (xs : List X) → list_any before xs ≡ false → list_any test (map f xs) ≡ false
none-map before test f each [] h = refl
none-map before test f each (x ∷ xs) h =
    rw (each x (first_false (before x) (list_any before xs) h)) (none-map before test f each xs (second_false (before x) (list_any before xs) h))

none-flat_map : {X Y : Type 0} (before : X → Bool) (test : Y → Bool) (f : X → List Y) → ((x : X) → before x ≡ false → list_any test (f x) ≡ false) →
    (xs : List X) → list_any before xs ≡ false → list_any test (flat_map f xs) ≡ false
none-flat_map before test f each [] h = refl
none-flat_map before test f each (x ∷ xs) h =
    none-append test (f x) (flat_map f xs) (each x (first_false (before x) (list_any before xs) h))
    (none-flat_map before test f each xs (second_false (before x) (list_any before xs) h))

-- ---- rows without long texts

-- whether one of the rows has a text that is too long
abbrev pub is_long : Row → Bool
is_long row = list_any is_long_text row

-- a cell of a row, or the null in its place
short_cell : (row : Row) (column : ℕ) → is_long row ≡ false → is_long_text (cell_in row column) ≡ false
short_cell [] column h = refl
short_cell (value ∷ row) zero h = first_false (is_long_text value) (is_long row) h
short_cell (value ∷ row) (suc column) h = short_cell row column (second_false (is_long_text value) (is_long row) h)

short_cells : (numbers : List ℕ) (row : Row) → is_long row ≡ false → is_long (map (cell_in row) numbers) ≡ false
short_cells [] row h = refl
short_cells (number ∷ numbers) row h = rw (short_cell row number h) (short_cells numbers row h)

short_taken : (columns : Columns) (rows : List Row) → list_any is_long rows ≡ false → list_any is_long (taken columns rows) ≡ false
short_taken AllColumns rows h = h
short_taken (These numbers) rows h = none-map is_long is_long (λ row. map (cell_in row) numbers) (λ row short. short_cells numbers row short) rows h

short_joined : (on : List JoinKey) (lefts rights : List Row) → list_any is_long lefts ≡ false → list_any is_long rights ≡ false →
    list_any is_long (joined_rows on lefts rights) ≡ false
short_joined on lefts rights short behind =
    none-flat_map is_long is_long (λ left. filter (fits on) (map (λ right. left ++ right) rights))
    (λ left here. none-filter is_long (fits on) (map (λ right. left ++ right) rights)
    (none-map is_long is_long (λ right. left ++ right) (λ right there. none-append is_long_text left right here there) rights behind))
    lefts short

-- whether the rows of a place have such a text
abbrev is_long_place : List Row → Bool
is_long_place rows = list_any is_long rows

short_first : (places : List (List Row)) → list_any is_long_place places ≡ false → list_any is_long (first_rows places) ≡ false
short_first [] h = refl
short_first (rows ∷ places) h = first_false (is_long_place rows) (list_any is_long_place places) h

short_over : (tree : Tree) (places : List (List Row)) → list_any is_long_place places ≡ false → list_any is_long (rows_over tree places) ≡ false
short_over (scan table schema columns) places h = short_taken columns (first_rows places) (short_first places h)
short_over (filtered predicate tree) places h = none-filter is_long (is_true predicate) (rows_over tree places) (short_over tree places h)
short_over (joined left right on) places h =
    let behind = drop (length (tree_schemas left)) places in
    short_joined on (rows_over left places) (rows_over right behind) (short_over left places h)
    (short_over right behind (none-drop is_long_place (length (tree_schemas left)) places h))

-- ---- groups

-- whether a group's key has such a text
abbrev has_long_key : Group → Bool
has_long_key group = is_long group.key

short_with : (key : List Value) (row : Row) (groups : List Group) → is_long key ≡ false → list_any has_long_key groups ≡ false →
    list_any has_long_key (with_row key row groups) ≡ false
short_with key row [] short h = rw short refl
short_with key row (group ∷ groups) short h =
    by (same_key group.key key) (short_with key row groups short (second_false (has_long_key group) (list_any has_long_key groups) h))
  where
    by : (same : Bool) → list_any has_long_key (with_row key row groups) ≡ false →
        list_any has_long_key (if same then record group { rows = group.rows ++ row ∷ [] } ∷ groups else group ∷ with_row key row groups) ≡ false
    by true rest = h
    by false rest = rw (first_false (has_long_key group) (list_any has_long_key groups) h) rest

short_fold : (keys : List ℕ) (groups : List Group) (rows : List Row) → list_any has_long_key groups ≡ false → list_any is_long rows ≡ false →
    list_any has_long_key (fold (λ some row. with_row (map (cell_in row) keys) row some) groups rows) ≡ false
short_fold keys groups [] short h = short
short_fold keys groups (row ∷ rows) short h =
    short_fold keys (with_row (map (cell_in row) keys) row groups) rows
    (short_with (map (cell_in row) keys) row groups (short_cells keys row (first_false (is_long row) (list_any is_long rows) h)) short)
    (second_false (is_long row) (list_any is_long rows) h)

short_groups : (keys : List ℕ) (rows : List Row) → list_any is_long rows ≡ false → list_any has_long_key (groups_by keys rows) ≡ false
short_groups [] rows h = refl
short_groups (key ∷ keys) rows h = short_fold (key ∷ keys) [] rows refl h

-- a count is no text, nor is a sum
short_item : (group : Group) (item : Aggregate) → has_long_key group ≡ false → is_long_text (answered group item) ≡ false
short_item group (Key place) h = short_cell group.key place h
short_item group CountRows h = refl
short_item group (Count column) h = refl
short_item group (Sum column) h = by (length (present values) == 0)
  where
    values : List Value
    values = map (λ row. cell_in row column) group.rows

    by : (none : Bool) → is_long_text (if none then Null else Int (fold plus (pos 0) values)) ≡ false
    by true = refl
    by false = refl

short_items : (group : Group) (items : List Aggregate) → has_long_key group ≡ false → is_long (map (answered group) items) ≡ false
short_items group [] h = refl
short_items group (item ∷ items) h = rw (short_item group item h) (short_items group items h)

short_output : (output : Output) (rows : List Row) → list_any is_long rows ≡ false → list_any is_long (output_rows output rows) ≡ false
short_output (Project columns) rows h = short_taken columns rows h
short_output (Groups keys items) rows h =
    none-map has_long_key is_long (λ group. map (answered group) items) (λ group short. short_items group items short)
    (groups_by keys rows) (short_groups keys rows h)

-- ---- plans

-- whether the rows of a table have such a text
abbrev pub is_long_table : TableAt → Bool
is_long_table table = list_any (list_any is_long_text) (table_of table).rows

-- the places of a plan, cut in the first, have none where its tables have none
short_places : (tables : List TableAt) (from to : ℕ) → list_any is_long_table tables ≡ false →
    list_any is_long_place (rows_between from to (flat_map rows_of (first_batches tables)) ∷ further_rows tables) ≡ false
short_places [] from to h = rw (none-take is_long (to - from) (drop from []) (none-drop is_long from [] refl)) refl
short_places (table ∷ tables) from to h =
    let rows = flat_map rows_of table.batches in
    let first = none-take is_long (to - from) (drop from rows) (none-drop is_long from rows (first_false (is_long_table table) (list_any is_long_table tables) h)) in
    rw first
    (none-map is_long_table is_long_place (λ (one : TableAt). (table_of one).rows) (λ one short. short) tables
    (second_false (is_long_table table) (list_any is_long_table tables) h))

pub short_law : (bound : BoundAt) (from to : ℕ) →
    All (λ (table : TableAt). list_any (list_any is_long_text) (table_of table).rows ≡ false) bound.tables →
    list_any (list_any is_long_text) (map (λ (given : Option ℕ × Row). given.1) (given_of bound from to)) ≡ false
short_law bound from to short =
    let places = rows_between from to (flat_map rows_of (first_batches bound.tables)) ∷ further_rows bound.tables in
    ap (list_any is_long) (given_rows bound from to)
    ∙ short_output bound.output (rows_over (tree_of bound.plan) places)
    (short_over (tree_of bound.plan) places (short_places bound.tables from to (list_any_none is_long_table bound.tables short)))
