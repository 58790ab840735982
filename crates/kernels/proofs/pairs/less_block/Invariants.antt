use Rattle.std.proofs.Common.{◌≡◌, ◌<◌, ℕ, pos, length, get_or, int_lt}
use mir.Val.{bool_byte}
use Rattle.kernels.proofs.pairs.less_block.Given as goal

abbrev pub invariant-loop-k : goal.invariant-loop-k
invariant-loop-k l = record {
  long : length l.flags ≡ 64;
  made : (row : ℕ) → row < l.k → get_or l.flags row 0 ≡ bool_byte (int_lt (get_or l.lefts row (pos 0)) (get_or l.rights row (pos 0)));
}
