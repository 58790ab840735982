use Rattle.flatbuf.proofs.Led.{led_tables}
use Rattle.flatbuf.proofs.written_laws.tables_read_back.Goals as goal

pub returns : goal.returns
returns c = led_tables
