use Rattle.flatbuf.proofs.Led.{buffer_reads}
use Rattle.flatbuf.proofs.written_laws.buffer_reads_back.Goals as goal

pub returns : goal.returns
returns c = buffer_reads
