-- What pushing down keeps, and what it gives.
use Rattle.std.specs.Prelude.{◌≡◌, ℕ, true, List, [], ◌++◌, length, map, drop}
use Rattle.std.specs.List.{AllByRecursion, filter}
use Rattle.scan_base.specs.Predicate.{Pred}
use Rattle.rewrite.specs.Conjuncts.{conjuncts, all_true}
use Rattle.rewrite.specs.PushedFilters.{is_left, is_behind, moved, pushed, is_pushed}
use Rattle.rewrite.specs.Places.{first_rows, rows_over, tree_width}
use Rattle.table_versions.specs.Table.{Row}
use Rattle.typed_plan.specs.HeldTables.{tree_schemas}
use Rattle.typed_plan.specs.Plan.{Tree, scan, filtered, joined, taken}

-- each row of a place has a cell for each column of its table
abbrev pub AreWide : Tree → List (List Row) → Type 0
AreWide (scan table schema columns) places =
    AllByRecursion (λ (row : Row). length row ≡ length schema.fields) (first_rows places)
AreWide (filtered predicate tree) places = AreWide tree places
AreWide (joined left right on) places =
    AreWide left places × AreWide right (drop (length (tree_schemas left)) places)

-- pushed filters keep the rows of every tree, in order
abbrev pub PushingKeepsRows : Type 0
PushingKeepsRows = (tree : Tree) (places : List (List Row)) → AreWide tree places →
    rows_over (pushed [] tree) places ≡ rows_over tree places

-- and stand below the joins
abbrev pub PushedStandBelow : Type 0
PushedStandBelow = (tree : Tree) → is_pushed (pushed [] tree) ≡ true

-- the conjuncts that name no column of another place let the same rows of each place through, of
-- some and of all
abbrev pub SameThrough : List (Pred ℕ) → Tree → List (List Row) → List (List Row) → Type 0
SameThrough ps (scan table schema columns) some all =
    filter (all_true ps) (taken columns (first_rows some))
    ≡ filter (all_true ps) (taken columns (first_rows all))
SameThrough ps (filtered predicate tree) some all =
    SameThrough (conjuncts predicate ++ ps) tree some all
SameThrough ps (joined left right on) some all =
    SameThrough (filter (is_left (tree_width left)) ps) left some all
    × SameThrough (map (moved (tree_width left)) (filter (is_behind (tree_width left)) ps)) right
    (drop (length (tree_schemas left)) some) (drop (length (tree_schemas left)) all)

-- so the rows of some are those of all
abbrev pub SkippingKeepsRows : Type 0
SkippingKeepsRows = (tree : Tree) (some all : List (List Row)) → AreWide tree some →
    AreWide tree all → SameThrough [] tree some all → rows_over tree some ≡ rows_over tree all
