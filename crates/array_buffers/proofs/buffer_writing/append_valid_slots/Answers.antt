use Rattle.std.proofs.Common.{◌≡◌, ◌++◌, ◌∷◌, [], ℕ, List, length, map, sym, ap, ◌∙◌, arith, append_assoc}
use Rattle.std.specs.Int.{div_ceil}
use Rattle.std.specs.List.{range_with_len}
use Rattle.arrays.specs.Nulls.{valid_slots}
use Rattle.array_buffers.specs.ColumnBuffers.{packed_bits}
use Rattle.array_buffers.proofs.Packed.{byte_of}
use Rattle.array_buffers.proofs.Appended.{begins_more, range_more}
use Rattle.arrays.proofs.NullSlots.{length-valid_slots}
use Rattle.array_buffers.proofs.buffer_writing.append_valid_slots.Goals as goal

pub loop-byte-preserved : goal.loop-byte-preserved
loop-byte-preserved c =
    let old = c.args.out.now.items in
    let bytes = byte_of (valid_slots c.args.column.now) in
    let k = c.loop-byte.byte in
    record {
      out = c.in_ok-push.ensures.items ∙ ap (λ (xs : List ℕ). xs ++ c.valid_byte.result ∷ []) c.loop-byte.invariant.out
          ∙ append_assoc old (map bytes (range_with_len 0 k)) (c.valid_byte.result ∷ [])
          ∙ ap (λ (x : ℕ). old ++ (map bytes (range_with_len 0 k) ++ x ∷ [])) c.valid_byte.ensures
          ∙ ap (λ (xs : List ℕ). old ++ xs) (sym (range_more bytes k));
      begins = begins_more old c.loop-byte.out.items c.push.new.self.items (c.valid_byte.result ∷ []) c.in_ok-push.ensures.items c.loop-byte.invariant.begins;
    }

pub returns-clause-ok : goal.returns-clause-ok
unfolding packed_bits
returns-clause-ok c =
    let column = c.args.column.now in
    let all : c.loop-byte.byte ≡ div_ceil (length (valid_slots column)) 8 =
    omega (arith, length-valid_slots column, c.len.ensures.count, c.div_ceil-byte-end.ensures, c.loop-byte.auto.byte-end, c.loop-byte-test.false) in
    c.loop-byte.invariant.out ∙ ap (λ (n : ℕ). c.args.out.now.items ++ map (byte_of (valid_slots column)) (range_with_len 0 n)) all
