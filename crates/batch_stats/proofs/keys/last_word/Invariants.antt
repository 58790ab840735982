use Rattle.std.proofs.Common.{◌≡◌, ◌≤◌, ◌-◌}
use Rattle.byteorder.specs.Endian.{big_from}
use Rattle.batch_stats.proofs.keys.last_word.Given as goal

abbrev pub invariant-loop-place : goal.invariant-loop-place
invariant-loop-place l = record {
  low : l.begin ≤ l.place;
  word : l.word ≡ big_from l.begin (l.place - l.begin) l.bytes;
}
