-- Keys of an ON, each once.
use Rattle.std.specs.Prelude.{Bool, ◌==◌, ◌&&◌, if◌then◌else◌, List, [], ◌∷◌, ◌++◌}
use Rattle.std.specs.List.{fold, list_any}
use Rattle.typed_plan.specs.Plan.{Tree, scan, filtered, joined}
use Rattle.typed_plan.specs.declared.plan.JoinKey.{JoinKey}

-- whether two keys are of the same columns
abbrev pub same_columns : JoinKey → JoinKey → Bool
same_columns key other = key.left == other.left && key.right == other.right

-- keys with one more, unless it is among them
abbrev pub with_key : List JoinKey → JoinKey → List JoinKey
with_key keys key = if list_any (same_columns key) keys then keys else keys ++ key ∷ []

-- the keys, each once, in the order in which they come first
abbrev pub single_keys : List JoinKey → List JoinKey
single_keys on = fold with_key [] on

-- a tree in whose ONs each key stands once
abbrev pub single_tree : Tree → Tree
single_tree (scan table schema columns) = scan table schema columns
single_tree (filtered predicate tree) = filtered predicate (single_tree tree)
single_tree (joined left right on) =
    joined (single_tree left) (single_tree right) (single_keys on)
