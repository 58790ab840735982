use Rattle.flatbuf.proofs.Led.{led_table}
use Rattle.flatbuf.proofs.written_laws.child_reads_back.Goals as goal

pub returns : goal.returns
returns c = led_table
