use Rattle.proto_wire.proofs.Written.{varint_reads_back}
use Rattle.proto_wire.proofs.laws.varint_reads_back.Goals as goal

pub returns : goal.returns
returns c = varint_reads_back
