use Rattle.std.proofs.Common.{◌≡◌, ◌+◌, ◌*◌, ◌/◌, ◌%◌, ◌∙◌, ◌++◌, ap, arith, length, sym, length-append}
use Rattle.std.specs.Simd.Lanes.{zip2, mask_l}
use Rattle.std.specs.Int.{to_le_bytes, w64}
use Rattle.byteorder.specs.Numbers.{length-bytes_low_first}
use Rattle.bitmap.specs.Bits.{bits_of}
use Rattle.bitmap.specs.inside.JoinedBits.{joined}
use Rattle.bitmap.proofs.Masks.{join_more, join_none, length-bits_of}
use Rattle.bitmap.proofs.words.join_bits.Goals as goal

pub loop-i-init : goal.loop-i-init
loop-i-init c = record {
  long = ap length c.in_ok-made.ensures.items;
  made = join_none (joined c.args.operation) c.in_ok-made.made.items c.args.left.now c.args.right.now c.args.left_first c.args.right_first;
}

pub loop-i-preserved : goal.loop-i-preserved
loop-i-preserved c =
    let m = 64 * c.loop-i.i in
    let ls = bits_of c.args.left.now (c.args.left_first + m) 64 in
    let rs = bits_of c.args.right.now (c.args.right_first + m) 64 in
    let w = c.join_words.result in
    let e : m + 64 ≡ 64 * (c.loop-i.i + 1) = omega arith in
    let added : c.extend_from_slice.new.self.items ≡ c.loop-i.made.items ++ to_le_bytes w64 w = c.in_ok-extend_from_slice.ensures.items ∙ ap (λ r. c.loop-i.made.items ++ r) c.to_le_bytes.ensures in
    let is : w ≡ mask_l (zip2 (joined c.args.operation) ls rs) =
    c.join_words.ensures ls rs (length-bits_of c.args.left.now (c.args.left_first + m) 64 ∙ sym (length-bits_of c.args.right.now (c.args.right_first + m) 64)) c.word-one.ensures c.word-other.ensures in
    record {
      long = ap length added ∙ omega (arith, length-append c.loop-i.made.items (to_le_bytes w64 w), length-bytes_low_first 0 8 w, c.loop-i.invariant.long);
      made = rw (added, ← e) (join_more (joined c.args.operation) c.loop-i.made.items c.args.left.now c.args.right.now c.args.left_first c.args.right_first m 64 w (omega (arith, c.loop-i.invariant.long)) (omega arith) (omega (arith, c.join_words.type_inv)) c.loop-i.invariant.made is);
    }

pub returns-clause-bits : goal.returns-clause-bits
returns-clause-bits c =
    let m = 64 * (c.args.len / 64) in
    let n = c.args.len % 64 in
    let ls = bits_of c.args.left.now (c.args.left_first + m) n in
    let rs = bits_of c.args.right.now (c.args.right_first + m) n in
    let w = c.join_words-2.result in
    let i : 64 * c.loop-i.i ≡ m = omega arith in
    let had = rw i at c.loop-i.invariant.made in
    let e : m + n ≡ c.args.len = omega arith in
    let added : c.extend_from_slice-2.new.self.items ≡ c.loop-i.made.items ++ to_le_bytes w64 w = c.in_ok-extend_from_slice-2.ensures.items ∙ ap (λ r. c.loop-i.made.items ++ r) c.to_le_bytes-2.ensures in
    let is : w ≡ mask_l (zip2 (joined c.args.operation) ls rs) =
    c.join_words-2.ensures ls rs (length-bits_of c.args.left.now (c.args.left_first + m) n ∙ sym (length-bits_of c.args.right.now (c.args.right_first + m) n)) c.short_word-one.ensures c.short_word-other.ensures in
    rw added (rw (← e) (join_more (joined c.args.operation) c.loop-i.made.items c.args.left.now c.args.right.now c.args.left_first c.args.right_first m n w (omega (arith, c.loop-i.invariant.long)) (omega arith) (omega (arith, c.join_words-2.type_inv)) had is))
