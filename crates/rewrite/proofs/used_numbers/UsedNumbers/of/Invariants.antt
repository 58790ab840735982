use Rattle.std.proofs.Common.{◌≡◌, ◌<◌, ◌≤◌, ℕ, length, get_or}
use Rattle.rewrite.specs.PrunedColumns.{used_number}
use Rattle.rewrite.proofs.used_numbers.UsedNumbers.of.Given as goal

abbrev pub invariant-loop-used : goal.invariant-loop-used
invariant-loop-used l = record {
  all : length l.numbers.items ≡ l.used-index;
  next : l.before ≡ used_number l.uses l.used-index;
  few : l.before ≤ l.used-index;
  counts : (k : ℕ) → k < l.used-index → get_or l.numbers.items k 0 ≡ used_number l.uses k;
}
