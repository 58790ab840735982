-- How large plans are.
use Rattle.std.proofs.Common.{ℕ, ◌+◌}
use Rattle.typed_plan.specs.Plan.{Tree, scan, filtered, joined}

-- the number of filters and joins
abbrev pub tree_size : Tree → ℕ
tree_size (scan table schema columns) = 0
tree_size (filtered predicate tree) = tree_size tree + 1
tree_size (joined left right on) = tree_size left + tree_size right + 1
