use Rattle.std.proofs.Common.{◌≡◌, ◌<◌, ◌+◌, ◌^◌, ◌++◌, All, length, take}
use Rattle.hash_join.specs.Words.{set_bits}
use Rattle.hash_join.proofs.left_pieces.keep_rows.Given as goal

abbrev pub invariant-bits : goal.invariant-bits
invariant-bits l = record {
  long : length l.kept ≡ length l.fn.kept;
  small : All (λ row. row < 2 ^ 32) (set_bits 64 l.from l.left);
  room : l.next + length (set_bits 64 l.from l.left) ≡ l.count + length (set_bits 64 l.from l.word);
  kept : take l.next l.kept ++ set_bits 64 l.from l.left ≡ take l.count l.fn.kept ++ set_bits 64 l.from l.word;
}

abbrev pub decreases-bits : goal.decreases-bits
decreases-bits l = l.left
