use Rattle.std.proofs.Common.{◌≡◌, ◌++◌, take}
use Rattle.flight_proto.specs.Message.{spelled}
use Rattle.flight_proto.specs.Parts.{entries_of}
use Rattle.flight_proto.proofs.message_parts.append_parts.Given as goal

-- the parts so far are written
abbrev pub invariant-loop-part : goal.invariant-loop-part
invariant-loop-part l = l.out.items ≡ l.fn.out.items ++ spelled (entries_of (take l.part-index l.parts))
