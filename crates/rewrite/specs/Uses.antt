-- Inside: columns that are marked as used, one by one.
use Rattle.std.specs.Prelude.{ℕ, Bool, true, false, List, [], ◌∷◌, ◌++◌, length, take, drop}
use Rattle.std.specs.Prelude.{replicate, slice_set}
use Rattle.scan_base.specs.declared.predicate.Operand.{Operand}
use Rattle.scan_base.specs.declared.predicate.Operand.TheVariants.{Column, Literal}
use Rattle.scan_base.specs.Predicate.{Pred, conjunction, disjunction, negation, truth_test}
use Rattle.scan_base.specs.Predicate.{comparing, between, membership, null_test, constant}
use Rattle.rewrite.specs.Places.{tree_width}
use Rattle.typed_plan.specs.Plan.{Tree, scan, filtered, joined}
use Rattle.typed_plan.specs.declared.plan.Aggregate.{Aggregate}
use Rattle.typed_plan.specs.declared.plan.Aggregate.TheVariants.{Key, CountRows, Count, Sum}
use Rattle.typed_plan.specs.declared.plan.Columns.TheVariants.{All, These}
use Rattle.typed_plan.specs.declared.plan.JoinKey.{JoinKey}
use Rattle.typed_plan.specs.declared.plan.Output.{Output}
use Rattle.typed_plan.specs.declared.plan.Output.TheVariants.{Project, Groups}

-- these uses and a column's; one that is not there has none
abbrev pub with_column : ℕ → List Bool → List Bool
with_column number uses = slice_set uses number true

-- .. and those of several columns
abbrev pub with_uses : List ℕ → List Bool → List Bool
with_uses [] uses = uses
with_uses (number ∷ numbers) uses = with_uses numbers (with_column number uses)

-- .. and those of an operand
abbrev pub with_operand : Operand ℕ → List Bool → List Bool
with_operand (Column number) uses = with_column number uses
with_operand (Literal value) uses = uses

abbrev pub with_operands : List (Operand ℕ) → List Bool → List Bool
with_operands [] uses = uses
with_operands (operand ∷ operands) uses = with_operands operands (with_operand operand uses)

-- .. and those of a predicate
abbrev pub with_predicate : Pred ℕ → List Bool → List Bool
with_predicate (conjunction p q) uses = with_predicate q (with_predicate p uses)
with_predicate (disjunction p q) uses = with_predicate q (with_predicate p uses)
with_predicate (negation p) uses = with_predicate p uses
with_predicate (truth_test negated tested p) uses = with_predicate p uses
with_predicate (comparing comparison left right) uses = with_operand right (with_operand left uses)
with_predicate (between negated operand low high) uses =
    with_operand high (with_operand low (with_operand operand uses))
with_predicate (membership negated operand items) uses =
    with_operands items (with_operand operand uses)
with_predicate (null_test negated operand) uses = with_operand operand uses
with_predicate (constant truth) uses = uses

-- .. and those of the keys of an ON
abbrev pub with_keys : List JoinKey → List Bool → List Bool
with_keys [] uses = uses
with_keys (key ∷ on) uses = with_keys on (with_column key.right (with_column key.left uses))

-- .. and those of a tree's filters and keys
abbrev pub with_tree : Tree → List Bool → List Bool
with_tree (scan table schema columns) uses = uses
with_tree (filtered predicate tree) uses = with_tree tree (with_predicate predicate uses)
with_tree (joined left right on) uses =
    let more = with_keys on uses in
    with_tree left (take (tree_width left) more) ++ with_tree right (drop (tree_width left) more)

-- .. and those of items
abbrev pub with_item : Aggregate → List Bool → List Bool
with_item (Key place) uses = uses
with_item CountRows uses = uses
with_item (Count column) uses = with_column column uses
with_item (Sum column) uses = with_column column uses

abbrev pub with_items : List Aggregate → List Bool → List Bool
with_items [] uses = uses
with_items (item ∷ items) uses = with_items items (with_item item uses)

-- .. and those of a result
abbrev pub with_output : Output → List Bool → List Bool
with_output (Project All) uses = replicate (length uses) true
with_output (Project (These columns)) uses = with_uses columns uses
with_output (Groups keys items) uses = with_items items (with_uses keys uses)

-- which columns of a plan's rows are used
abbrev pub uses_of : Tree → Output → List Bool
uses_of tree output = with_tree tree (with_output output (replicate (tree_width tree) false))
