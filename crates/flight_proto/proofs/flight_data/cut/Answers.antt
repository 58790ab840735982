use Rattle.std.proofs.Common.{◌≡◌, ◌+◌, ◌++◌, [], length, Some, None, refl, sym, ap, ◌∙◌, arith, append_assoc, length-append}
use Rattle.proto_wire.specs.Calls.{entry_of}
use Rattle.flight_proto.proofs.Cursors.{chunk_place}
use Rattle.flight_proto.proofs.Lookups.{read_on, read_more, cut_is, further, regrouped}
use Rattle.flight_proto.proofs.flight_data.cut.Goals as goal

pub loop-field-init : goal.loop-field-init
loop-field-init c =
    let same = c.new-fields.ensures ∙ c.as_slice.ensures in
    record {
      front = [];
      last = None;
      whole = sym same;
      place = refl;
      ordered = omega arith;
      within = omega arith;
      read = ap (read_on None c.args.number) (sym same);
    }

pub loop-field-preserved-in-Some-chunk_of : goal.loop-field-preserved-in-Some-chunk_of
loop-field-preserved-in-Some-chunk_of c =
    let before = c.loop-field.invariant in
    let h = rw c.in-Some.is at c.in_ok-field.ensures.whole in
    let s = rw c.in-Some.is at c.in_ok-field.ensures.standard in
    let e = sym (rw c.in-Some-chunk_of.is at c.chunk_of.ensures) in
    let chunk = c.in-Some-chunk_of.chunk.now in
    let rest = c.next.new.self in
    let at = chunk_place c.args.number (entry_of c.in-Some.field) c.loop-field.fields rest chunk s e in
    let front = before.front ++ at.0 in
    let whole : c.args.message.now ≡ front ++ (chunk ++ rest) = further c.args.message.now before.front c.loop-field.fields at.0 chunk rest before.whole at.1 in
    let long : length c.args.message.now ≡ length front + (length chunk + length rest) = omega (arith, ap length whole, length-append front (chunk ++ rest), length-append chunk rest) in
    record {
      front = front ++ chunk;
      last = Some chunk;
      whole = regrouped c.args.message.now front chunk rest whole;
      place = cut_is front chunk rest c.args.message.now _ _ whole (omega (arith, long, c.len.ensures.value, c.bytes_left.ensures)) (omega (arith, long, c.len.ensures.value, c.bytes_left.ensures));
      ordered = omega arith;
      within = omega (arith, c.len.ensures.value);
      read = before.read ∙ read_more before.last (Some chunk) c.args.number (entry_of c.in-Some.field) c.loop-field.fields rest h.0 e;
    }

pub loop-field-preserved : goal.loop-field-preserved
loop-field-preserved c =
    let before = c.loop-field.invariant in
    let h = rw c.in-Some.is at c.in_ok-field.ensures.whole in
    let s = rw c.in-Some.is at c.in_ok-field.ensures.standard in
    let e = sym (rw c.in_default-chunk_of.is at c.chunk_of.ensures) in
    record {
      front = before.front ++ s.front;
      last = before.last;
      whole = before.whole ∙ ap (λ t. before.front ++ t) s.whole ∙ sym (append_assoc before.front s.front c.next.new.self);
      place = before.place;
      ordered = before.ordered;
      within = before.within;
      read = before.read ∙ read_more before.last None c.args.number (entry_of c.in-Some.field) c.loop-field.fields c.next.new.self h.0 e;
    }
