use Rattle.std.proofs.Common.{◌≡◌, ◌++◌, take, map}
use Rattle.std.specs.Prelude.{All}
use Rattle.proto_wire.specs.Writing.{IsWritable}
use Rattle.proto_wire.specs.Calls.{entry_of, message_of}
use Rattle.proto_wire.proofs.put.append_fields.Given as goal

-- the fields so far are written
abbrev pub invariant-loop-field : goal.invariant-loop-field
invariant-loop-field l =
    (l.out.items ≡ l.fn.out.items ++ message_of (take l.field-index l.fields)) × All IsWritable (map entry_of (take l.field-index l.fields))
