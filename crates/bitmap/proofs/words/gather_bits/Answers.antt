use Rattle.std.proofs.Common.{◌≡◌, ◌+◌, ◌*◌, ◌-◌, ◌/◌, ◌∙◌, ◌++◌, ℕ, List, ap, arith, length, map, take, drop, length-append}
use Rattle.std.specs.Simd.Lanes.{mask_l}
use Rattle.std.specs.Int.{to_le_bytes, w64}
use Rattle.std.proofs.lemmas.List.{take_all}
use Rattle.byteorder.specs.Numbers.{length-bytes_low_first}
use Rattle.bitmap.specs.Bits.{bit_of}
use Rattle.bitmap.proofs.Places.{bits_more, no_places}
use Rattle.bitmap.proofs.words.gather_bits.Goals as goal

pub loop-i-init : goal.loop-i-init
loop-i-init c = record {
  long = ap length c.in_ok-made.ensures.items;
  made = no_places (λ place. bit_of c.args.bytes.now (c.args.first + place)) c.in_ok-made.made.items c.args.places.now;
}

pub loop-i-preserved : goal.loop-i-preserved
loop-i-preserved c =
    let f = λ (place : ℕ). bit_of c.args.bytes.now (c.args.first + place) in
    let places = c.args.places.now in
    let m = 64 * c.loop-i.i in
    let w = c.word_at_places-word.result in
    let e : m + 64 ≡ 64 * (c.loop-i.i + 1) = omega arith in
    let added : c.extend_from_slice.new.self.items ≡ c.loop-i.made.items ++ to_le_bytes w64 w = c.in_ok-extend_from_slice.ensures.items ∙ ap (λ (r : List ℕ). c.loop-i.made.items ++ r) c.to_le_bytes.ensures in
    let wide : m + 64 - m ≡ 64 = omega arith in
    let is : w ≡ mask_l (map f (take 64 (drop m places))) = c.word_at_places-word.ensures ∙ ap (λ (n : ℕ). mask_l (map f (take n (drop m places)))) wide in
    record {
      long = ap length added ∙ omega (arith, length-append c.loop-i.made.items (to_le_bytes w64 w), length-bytes_low_first 0 8 w, c.loop-i.invariant.long);
      made = rw (added, ← e) (bits_more f c.loop-i.made.items places m 64 w (omega (arith, c.loop-i.invariant.long)) (omega arith) (omega (arith, c.word_at_places-word.type_inv)) (omega arith) c.loop-i.invariant.made is);
    }

pub returns-clause-bits : goal.returns-clause-bits
returns-clause-bits c =
    let f = λ (place : ℕ). bit_of c.args.bytes.now (c.args.first + place) in
    let places = c.args.places.now in
    let m = 64 * (length places / 64) in
    let n = length places - m in
    let w = c.word_at_places-last.result in
    let i : 64 * c.loop-i.i ≡ m = omega arith in
    let had = rw i at c.loop-i.invariant.made in
    let e : m + n ≡ length places = omega arith in
    let added : c.extend_from_slice-2.new.self.items ≡ c.loop-i.made.items ++ to_le_bytes w64 w = c.in_ok-extend_from_slice-2.ensures.items ∙ ap (λ (r : List ℕ). c.loop-i.made.items ++ r) c.to_le_bytes-2.ensures in
    let is : w ≡ mask_l (map f (take n (drop m places))) = c.word_at_places-last.ensures in
    let all : map f (take (m + n) places) ≡ map f places = ap (λ (k : ℕ). map f (take k places)) e ∙ ap (map f) (take_all (length places) places (omega arith)) in
    rw added (rw (← e) (bits_more f c.loop-i.made.items places m n w (omega (arith, c.loop-i.invariant.long)) (omega arith) (omega (arith, c.word_at_places-last.type_inv)) (omega arith) had is ∙ all))
