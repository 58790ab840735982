use Rattle.std.proofs.Common.{◌≡◌, ◌+◌, ◌-◌, map, drop}
use Rattle.std.specs.Simd.Lanes.{mask_l}
use Rattle.bitmap.specs.Bits.{bit_of}
use Rattle.bitmap.proofs.words.word_at_places.Given as goal

abbrev pub invariant-loop-taken : goal.invariant-loop-taken
invariant-loop-taken l = l.word ≡ mask_l (map (λ place. bit_of l.bytes (l.first + place)) (drop (l.count - l.taken) l.places))
