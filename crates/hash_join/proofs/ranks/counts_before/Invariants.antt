use Rattle.std.proofs.Common.{◌≡◌, ◌<◌, ◌*◌, ℕ, length, get_or}
use Rattle.hash_join.specs.Ranks.{rank_at}
use Rattle.hash_join.proofs.ranks.counts_before.Given as goal

abbrev pub invariant-loop-word : goal.invariant-loop-word
invariant-loop-word l = record {
  long : length l.before.items ≡ l.word;
  counts : (word : ℕ) → word < l.word → get_or l.before.items word 0 ≡ rank_at l.bits (64 * word);
  ones : l.ones ≡ rank_at l.bits (64 * l.word);
}
