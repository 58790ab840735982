use Rattle.std.proofs.Common.{Ok, sym, ◌∙◌}
use Rattle.flight_proto.specs.Cursor.{left_of}
use Rattle.flight_proto.proofs.Cursors.{ended}
use Rattle.flight_proto.proofs.message.Cursor.check.Goals as goal

pub returns : goal.returns
returns c =
    c.loop.invariant (Ok tt) (ended c.in_ok-next.field-0 (left_of c.loop.cursor) (left_of c.next.new.self) (sym c.is_some.ensures ∙ c.if-is_some.false) c.in_ok-next.ensures.left)
