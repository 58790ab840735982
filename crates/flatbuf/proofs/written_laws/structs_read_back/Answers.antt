use Rattle.flatbuf.proofs.Led.{led_structs}
use Rattle.flatbuf.proofs.written_laws.structs_read_back.Goals as goal

pub returns : goal.returns
returns c = led_structs
