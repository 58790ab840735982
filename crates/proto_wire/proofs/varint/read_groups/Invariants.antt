use Rattle.proto_wire.proofs.Groups.{Continues}
use Rattle.proto_wire.proofs.varint.read_groups.Given as goal

-- what is read and what is left is the varint of all the bytes
abbrev pub invariant-loop-place : goal.invariant-loop-place
invariant-loop-place l = Continues l.bytes l.place l.value l.rest
