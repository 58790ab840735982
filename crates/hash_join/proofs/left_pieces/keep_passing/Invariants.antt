use Rattle.std.proofs.Common.{◌≡◌, ◌≤◌, ◌-◌, length, take}
use Rattle.std.specs.List.{filter, range_with_len}
use Rattle.hash_join.proofs.left_pieces.keep_passing.Given as goal

abbrev pub invariant-looks : goal.invariant-looks
invariant-looks g l = record {
  low : l.fn.from ≤ l.at;
  high : l.at ≤ l.to;
  few : l.count ≤ l.at - l.from;
  long : length l.kept ≡ length l.fn.kept;
  kept : take l.count l.kept ≡ filter (g.S.Sieve.passes l.sieve) (range_with_len l.from (l.at - l.from));
}

abbrev pub decreases-looks : goal.decreases-looks
decreases-looks g l = l.to - l.at
