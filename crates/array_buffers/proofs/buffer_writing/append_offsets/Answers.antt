use Rattle.std.proofs.Common.{◌+◌, ◌++◌, ℕ, List, length, sym, ap, ◌∙◌, arith}
use Rattle.scan_base.specs.declared.value.Value.{Value}
use Rattle.arrays.specs.WrittenSlots.{offsets_from}
use Rattle.arrays.proofs.Rest.{rest_of, rest_more, joined_more}
use Rattle.arrays.proofs.Offsets.{out_more}
use Rattle.array_buffers.proofs.Appended.{begins_more}
use Rattle.std.specs.Int.{to_le_bytes, w32}
use Rattle.array_buffers.proofs.buffer_writing.append_offsets.Goals as goal

pub overflow_cast-offset : goal.overflow_cast-offset
overflow_cast-offset c =
    let more = joined_more c.args.column.now c.loop-place.place (omega arith) in
    record { fits = omega (arith, more, ap length c.text_at.ensures, c.loop-place.invariant.all, c.requires) }

pub overflow_add-offset : goal.overflow_add-offset
overflow_add-offset c =
    let more = joined_more c.args.column.now c.loop-place.place (omega arith) in
    record { fits = omega (arith, more, ap length c.text_at.ensures, c.loop-place.invariant.all, c.requires) }

pub loop-place-preserved : goal.loop-place-preserved
loop-place-preserved c =
    let column = c.args.column.now in
    let place = c.loop-place.place in
    let at = c.loop-place.offset in
    let bytes = c.to_le_bytes.result in
    let next = at + length c.text_at.result.now in
    let rest = offsets_from next (rest_of column (place + 1)) in
    let more = rest_more column place (omega arith) in
    let long = joined_more column place (omega arith) in
    record {
      all = omega (arith, long, ap length c.text_at.ensures, c.loop-place.invariant.all);
      out = out_more c.loop-place.out.items c.extend_from_slice.new.self.items bytes rest _ c.in_ok-extend_from_slice.ensures.items
          (ap (λ (xs : List ℕ). c.loop-place.out.items ++ (xs ++ rest)) c.to_le_bytes.ensures
          ∙ ap (λ (text : List ℕ). c.loop-place.out.items ++ (to_le_bytes w32 at ++ offsets_from (at + length text) (rest_of column (place + 1)))) c.text_at.ensures
          ∙ ap (λ (xs : List Value). c.loop-place.out.items ++ offsets_from at xs) (sym more) ∙ c.loop-place.invariant.out);
      begins = begins_more c.args.out.now.items c.loop-place.out.items c.extend_from_slice.new.self.items bytes c.in_ok-extend_from_slice.ensures.items c.loop-place.invariant.begins;
    }
