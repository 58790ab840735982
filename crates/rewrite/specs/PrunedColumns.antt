-- Columns that are not used are not read.
use Rattle.std.specs.Prelude.{◌≡◌, ◌<◌, ℕ, zero, suc, ◌-◌, Bool, true, false, not, ◌&&◌, ◌||◌, ◌==◌}
use Rattle.std.specs.Prelude.{nat_lt, if◌then◌else◌, List, [], ◌∷◌, length, map, take, drop}
use Rattle.std.specs.List.{list_all, list_any, range_with_len}
use Rattle.scan_base.specs.Predicate.{Pred, names_only}
use Rattle.rewrite.specs.Laws.{AreWide}
use Rattle.rewrite.specs.Places.{rows_over, tree_width}
use Rattle.table_versions.specs.Table.{Row}
use Rattle.typed_plan.specs.NumberedPredicates.{predicate_map}
use Rattle.typed_plan.specs.Plan.{Tree, scan, filtered, joined, PlanAt}
use Rattle.typed_plan.specs.declared.plan.Aggregate.{Aggregate}
use Rattle.typed_plan.specs.declared.plan.Aggregate.TheVariants.{Key, CountRows, Count, Sum}
use Rattle.typed_plan.specs.declared.plan.Columns.{Columns}
use Rattle.typed_plan.specs.declared.plan.Columns.TheVariants.{All, These}
use Rattle.typed_plan.specs.declared.plan.JoinKey.{JoinKey}
use Rattle.typed_plan.specs.declared.plan.Output.{Output}
use Rattle.typed_plan.specs.declared.plan.Output.TheVariants.{Project, Groups}

-- ---- the columns that a plan names

-- whether a predicate names a column
abbrev pub names_column : Pred ℕ → ℕ → Bool
names_column predicate number = not (names_only (λ column. not (column == number)) predicate)

-- whether a key of an ON is this column on one side or the other
abbrev pub key_names : ℕ → JoinKey → Bool
key_names number key = (key.left == number) || (key.right == number)

-- whether a filter or an ON names a column of a tree's rows: those of the right stand after those
-- of the left
abbrev pub tree_names : Tree → ℕ → Bool
tree_names (scan table schema columns) number = false
tree_names (filtered predicate tree) number =
    names_column predicate number || tree_names tree number
tree_names (joined left right on) number =
    list_any (key_names number) on
    || (if nat_lt number (tree_width left) then tree_names left number
    else tree_names right (number - tree_width left))

-- whether an item of a grouped result names a column of the rows
abbrev pub item_names : ℕ → Aggregate → Bool
item_names number (Key place) = false
item_names number CountRows = false
item_names number (Count column) = column == number
item_names number (Sum column) = column == number

-- whether a result names a column of the rows
abbrev pub output_names : Output → ℕ → Bool
output_names (Project All) number = true
output_names (Project (These columns)) number = list_any (λ column. column == number) columns
output_names (Groups keys items) number =
    list_any (λ key. key == number) keys || list_any (item_names number) items

-- A filter, an ON or the result names each column of the rows. These are the columns that the scans
-- give.
abbrev pub IsPruned : PlanAt → Type 0
IsPruned plan = (number : ℕ) → number < tree_width plan.tree →
    (output_names plan.output number || tree_names plan.tree number) ≡ true

-- ---- trees and results without the other columns

-- those of a list that are used
abbrev pub used_of : {X : Type 0} → List Bool → List X → List X
used_of [] xs = []
used_of (used ∷ uses) [] = []
used_of (true ∷ uses) (x ∷ xs) = x ∷ used_of uses xs
used_of (false ∷ uses) (x ∷ xs) = used_of uses xs

-- whether a column is used
abbrev pub is_used : List Bool → ℕ → Bool
is_used [] number = false
is_used (used ∷ uses) zero = used
is_used (used ∷ uses) (suc number) = is_used uses number

-- the number that a used column has among those that are used
abbrev pub used_number : List Bool → ℕ → ℕ
used_number [] number = 0
used_number (used ∷ uses) zero = 0
used_number (true ∷ uses) (suc number) = suc (used_number uses number)
used_number (false ∷ uses) (suc number) = used_number uses number

-- the numbers of the columns of a table that a scan gives
abbrev pub numbers_of : Columns → ℕ → List ℕ
numbers_of All width = range_with_len 0 width
numbers_of (These numbers) width = numbers

-- a key of the columns that are used
abbrev pub used_key : List Bool → JoinKey → JoinKey
used_key uses key = record { left = used_number uses key.left; right = used_number uses key.right }

-- a tree whose scans give the used columns alone
abbrev pub pruned : List Bool → Tree → Tree
pruned uses (scan table schema columns) =
    scan table schema (These (used_of uses (numbers_of columns (length schema.fields))))
pruned uses (filtered predicate tree) =
    filtered (predicate_map (used_number uses) predicate) (pruned uses tree)
pruned uses (joined left right on) =
    joined (pruned (take (tree_width left) uses) left) (pruned (drop (tree_width left) uses) right)
    (map (used_key uses) on)

-- an item and a result of the columns that are used
abbrev pub item_in : List Bool → Aggregate → Aggregate
item_in uses (Key place) = Key place
item_in uses CountRows = CountRows
item_in uses (Count column) = Count (used_number uses column)
item_in uses (Sum column) = Sum (used_number uses column)

abbrev pub output_in : List Bool → Output → Output
output_in uses (Project All) = Project All
output_in uses (Project (These columns)) = Project (These (map (used_number uses) columns))
output_in uses (Groups keys items) = Groups (map (used_number uses) keys) (map (item_in uses) items)

-- whether both sides of a key are used
abbrev pub uses_key : List Bool → JoinKey → Bool
uses_key uses key = is_used uses key.left && is_used uses key.right

-- what a filter and a key name is used
abbrev pub AreUsed : List Bool → Tree → Type 0
AreUsed uses (scan table schema columns) = length uses ≡ tree_width (scan table schema columns)
AreUsed uses (filtered predicate tree) =
    (names_only (is_used uses) predicate ≡ true) × AreUsed uses tree
AreUsed uses (joined left right on) =
    (list_all (uses_key uses) on ≡ true) × AreUsed (take (tree_width left) uses) left
    × AreUsed (drop (tree_width left) uses) right

-- whether what an item names is used
abbrev pub uses_item : List Bool → Aggregate → Bool
uses_item uses (Key place) = true
uses_item uses CountRows = true
uses_item uses (Count column) = is_used uses column
uses_item uses (Sum column) = is_used uses column

-- whether what a result names is used, where there are no more columns than uses
abbrev pub uses_output : List Bool → Output → Bool
uses_output uses (Project All) = list_all (λ used. used) uses
uses_output uses (Project (These columns)) = list_all (is_used uses) columns
uses_output uses (Groups keys items) =
    list_all (is_used uses) keys && list_all (uses_item uses) items

-- a pruned tree gives the used cells of the same rows
abbrev pub PruningKeepsRows : Type 0
PruningKeepsRows = (uses : List Bool) (tree : Tree) (places : List (List Row)) → AreUsed uses tree →
    AreWide tree places →
    rows_over (pruned uses tree) places ≡ map (used_of uses) (rows_over tree places)
