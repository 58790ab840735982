use Rattle.std.proofs.Common.{◌+◌, ◌-◌, ◌<◌, ◌≤◌, ◌^◌, ℕ, Bool, List, length, map, drop, arith}
use Rattle.std.specs.Simd.Lanes.{mask_l}
use Rattle.std.proofs.lemmas.List.{length-map, length-drop}
use Rattle.bitmap.specs.Bits.{bit_of}
use Rattle.bitmap.proofs.Masks.{mask_room, byte_small}
use Rattle.bitmap.proofs.words.word_at_places.Goals as goal

-- the bits taken so far, fewer than 64, leave room for one more
room : (f : ℕ → Bool) (places : List ℕ) (i : ℕ) → length places ≤ 64 → 0 < i → mask_l (map f (drop i places)) < 2 ^ 63
room f places i few some = mask_room (map f (drop i places)) 63 (omega (arith, length-map (drop i places) f, length-drop i places))

pub overflow_mul-word : goal.overflow_mul-word
overflow_mul-word c =
    let low = room (λ place. bit_of c.args.bytes.now (c.args.first + place)) c.args.places.now (length c.args.places.now - c.loop-taken.taken) c.requires.few (omega arith) in
    record { fits = omega (arith, low, c.loop-taken.invariant) }

pub overflow_add-word : goal.overflow_add-word
overflow_add-word c =
    let low = room (λ place. bit_of c.args.bytes.now (c.args.first + place)) c.args.places.now (length c.args.places.now - c.loop-taken.taken) c.requires.few (omega arith) in
    record { fits = omega (arith, low, c.loop-taken.invariant, byte_small c.bit.result) }
