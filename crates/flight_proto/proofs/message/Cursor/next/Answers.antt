use Rattle.std.proofs.Common.{sym, ◌∙◌, arith, rules}
use Rattle.proto_wire.specs.Calls.{entry_of}
use Rattle.flight_proto.proofs.Cursors.{part_read, later_refused, later_over, next_part, no_part, chunk_shorter}
use Rattle.flight_proto.proofs.message.Cursor.next.Goals as goal

pub returns-in_err-field-clause-left : goal.returns-in_err-field-clause-left
returns-in_err-field-clause-left c =
    let refused = later_refused c.loop-self.self.number c.loop-self.self.part c.loop-self.self.later c.in_err-field.field-0.0 (omega (arith, c.bytes_left.ensures)) c.in_err-field.ensures.whole in
    rw (← c.loop-self.invariant.left, refused) (search rules)

pub returns-in_default-clause-left : goal.returns-in_default-clause-left
returns-in_default-clause-left c =
    let h = rw c.in_default.is at c.in_ok-field.ensures.whole in
    sym c.loop-self.invariant.left ∙ later_over c.loop-self.self.number c.loop-self.self.part c.loop-self.self.later (omega (arith, c.bytes_left.ensures)) h

pub loop-self-preserved-in-Some-chunk_of : goal.loop-self-preserved-in-Some-chunk_of
loop-self-preserved-in-Some-chunk_of c =
    let h = rw c.in-Some.is at c.in_ok-field.ensures.whole in
    let s = rw c.in-Some.is at c.in_ok-field.ensures.standard in
    let e = sym (rw c.in-Some-chunk_of.is at c.chunk_of.ensures) in
    let entry = entry_of c.in-Some.field in
    let number = c.loop-self.self.number in
    let part = c.in-Some-chunk_of.part.now in
    let same = next_part number entry c.loop-self.self.part c.loop-self.self.later c.next.new.self part (omega (arith, c.bytes_left.ensures)) h.0 e in
    let shorter = chunk_shorter number entry c.loop-self.self.later c.next.new.self part s e in
    record {
      left = rw c.new-self.ensures (sym same ∙ c.loop-self.invariant.left);
      fewer = rw c.new-self.ensures (omega (arith, shorter, c.loop-self.invariant.fewer));
    }

pub loop-self-preserved : goal.loop-self-preserved
loop-self-preserved c =
    let h = rw c.in-Some.is at c.in_ok-field.ensures.whole in
    let e = sym (rw c.in_default-chunk_of.is at c.chunk_of.ensures) in
    let same = no_part c.loop-self.self.number (entry_of c.in-Some.field) c.loop-self.self.part c.loop-self.self.later c.next.new.self (omega (arith, c.bytes_left.ensures)) h.0 e in
    record {
      left = sym same ∙ c.loop-self.invariant.left;
      fewer = omega (arith, h.1, c.loop-self.invariant.fewer);
    }

pub returns-clause-left : goal.returns-clause-left
returns-clause-left c =
    rw (← c.loop-self.invariant.left) (part_read c.next-2.result c.loop-self.self.number c.loop-self.self.part c.next-2.new.self c.loop-self.self.later c.next-2.ensures.whole c.next-2.ensures.standard (λ e. absurd (omega (arith, e, c.bytes_left.ensures))))
