use Rattle.flatbuf.proofs.Written.{table_aligned}
use Rattle.flatbuf.proofs.written_laws.table_is_aligned.Goals as goal

pub returns : goal.returns
returns c = table_aligned
