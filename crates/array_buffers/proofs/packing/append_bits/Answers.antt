use Rattle.std.proofs.Common.{◌≡◌, ◌+◌, ◌*◌, ◌-◌, ◌/◌, ◌%◌, ◌++◌, ℕ, List, take, drop, sym, ap, ◌∙◌, arith}
use Rattle.std.specs.Int.{to_le_bytes, w64, div_ceil}
use Rattle.std.specs.Simd.Lanes.{mask_l}
use Rattle.array_buffers.specs.ColumnBuffers.{packed_bits}
use Rattle.arrays.proofs.Offsets.{out_more}
use Rattle.array_buffers.proofs.Appended.{begins_more, on_ok_items, word_more, word_last}
use Rattle.array_buffers.proofs.packing.append_bits.Goals as goal

pub loop-word-preserved : goal.loop-word-preserved
loop-word-preserved c =
    let bits = c.args.bits.now in
    let word = c.loop-word.word in
    let bytes = c.to_le_bytes.result in
    let part : bytes ≡ to_le_bytes w64 (mask_l (take 64 (drop (c.args.from + 64 * word) bits))) = c.to_le_bytes.ensures ∙ ap (to_le_bytes w64) c.word.ensures in
    let rest = packed_bits (take (c.args.len - 64 * (word + 1)) (drop (c.args.from + 64 * (word + 1)) bits)) in
    let more = word_more bits c.args.from c.args.len word c.requires (omega arith) in
    record {
      out = out_more c.loop-word.out.items c.extend_from_slice.new.self.items bytes rest _ c.in_ok-extend_from_slice.ensures.items
          (ap (λ (xs : List ℕ). c.loop-word.out.items ++ (xs ++ rest)) part ∙ ap (λ (xs : List ℕ). c.loop-word.out.items ++ xs) (sym more) ∙ c.loop-word.invariant.out);
      begins = begins_more c.args.out.now.items c.loop-word.out.items c.extend_from_slice.new.self.items bytes c.in_ok-extend_from_slice.ensures.items c.loop-word.invariant.begins;
    }

pub returns-clause-ok : goal.returns-clause-ok
returns-clause-ok c =
    let bits = c.args.bits.now in
    let len = c.args.len in
    let rest = len % 64 in
    let place = c.args.from + 64 * (len / 64) in
    let last = c.to_le_bytes-last.result in
    let is : last ≡ to_le_bytes w64 (mask_l (take rest (drop place bits))) = c.to_le_bytes-last.ensures ∙ ap (to_le_bytes w64) c.short_word.ensures in
    let word : c.loop-word.word ≡ len / 64 = omega (arith, c.loop-word.auto.word-end, c.loop-word-test.false) in
    let part : take (div_ceil rest 8) last ≡ packed_bits (take (len - 64 * (len / 64)) (drop place bits)) =
    ap (take (div_ceil rest 8)) is ∙ sym (word_last bits c.args.from len rest c.requires (omega arith)) in
    on_ok_items c.extend_from_slice-2.result c.loop-word.out.items c.extend_from_slice-2.new.self.items (take c.div_ceil.result last) _ c.extend_from_slice-2.ensures.items
    (ap (λ (n : ℕ). c.loop-word.out.items ++ take n last) c.div_ceil.ensures ∙ ap (λ (xs : List ℕ). c.loop-word.out.items ++ xs) part
    ∙ ap (λ (n : ℕ). c.loop-word.out.items ++ packed_bits (take (len - 64 * n) (drop (c.args.from + 64 * n) bits))) (sym word) ∙ c.loop-word.invariant.out)
