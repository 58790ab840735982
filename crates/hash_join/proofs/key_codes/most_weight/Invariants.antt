use Rattle.std.proofs.Common.{◌≤◌}
use Rattle.hash_join.proofs.key_codes.most_weight.Given as goal

abbrev pub invariant-loop-batch : goal.invariant-loop-batch
invariant-loop-batch l = 1 ≤ l.most
