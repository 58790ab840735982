use Rattle.flatbuf.proofs.Written.{vtable_reads}
use Rattle.flatbuf.proofs.written_laws.vtable_reads_back.Goals as goal

pub returns : goal.returns
returns c = vtable_reads
