use Rattle.std.proofs.Common.{◌+◌, ◌++◌, ℕ, List, sym, ap, ◌∙◌, arith}
use Rattle.scan_base.specs.declared.value.Value.{Value}
use Rattle.arrays.specs.WrittenSlots.{texts_joined}
use Rattle.arrays.proofs.Rest.{rest_of, rest_more}
use Rattle.arrays.proofs.Offsets.{out_more}
use Rattle.array_buffers.proofs.Appended.{begins_more}
use Rattle.array_buffers.proofs.buffer_writing.append_each_text.Goals as goal

pub loop-place-preserved : goal.loop-place-preserved
loop-place-preserved c =
    let column = c.args.column.now in
    let place = c.loop-place.place in
    let text = c.text_at.result.now in
    let rest = texts_joined (rest_of column (place + 1)) in
    let more = rest_more column place (omega arith) in
    record {
      out = out_more c.loop-place.out.items c.extend_from_slice.new.self.items text rest _ c.in_ok-extend_from_slice.ensures.items
          (ap (λ (xs : List ℕ). c.loop-place.out.items ++ (xs ++ rest)) c.text_at.ensures ∙ ap (λ (xs : List Value). c.loop-place.out.items ++ texts_joined xs) (sym more) ∙ c.loop-place.invariant.out);
      begins = begins_more c.args.out.now.items c.loop-place.out.items c.extend_from_slice.new.self.items text c.in_ok-extend_from_slice.ensures.items c.loop-place.invariant.begins;
    }
