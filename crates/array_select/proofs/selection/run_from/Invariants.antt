use Rattle.std.proofs.Common.{◌≡◌, ◌<◌, ◌+◌, ℕ, length, get_or}
use Rattle.array_select.proofs.selection.run_from.Given as goal

abbrev pub invariant-loop-k : goal.invariant-loop-k
invariant-loop-k l = record {
  long : length l.run ≡ 64;
  made : (place : ℕ) → place < l.k → get_or l.run place 0 ≡ l.base + place;
}
