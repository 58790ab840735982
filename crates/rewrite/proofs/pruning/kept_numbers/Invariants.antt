use Rattle.std.proofs.Common.{◌≡◌, ◌++◌, drop}
use Rattle.rewrite.specs.PrunedColumns.{used_of}
use Rattle.rewrite.proofs.pruning.kept_numbers.Given as goal

-- what is kept, and then what is still to be kept
abbrev pub invariant-loop-place : goal.invariant-loop-place
invariant-loop-place l = l.made.items ++ used_of (drop l.place l.uses) (drop l.place l.numbers) ≡ used_of l.uses l.numbers
