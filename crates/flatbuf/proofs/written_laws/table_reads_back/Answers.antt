use Rattle.flatbuf.proofs.Written.{table_reads}
use Rattle.flatbuf.proofs.written_laws.table_reads_back.Goals as goal

pub returns : goal.returns
returns c = table_reads
