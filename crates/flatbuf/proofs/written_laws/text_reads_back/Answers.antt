use Rattle.flatbuf.proofs.Led.{led_text}
use Rattle.flatbuf.proofs.written_laws.text_reads_back.Goals as goal

pub returns : goal.returns
returns c = led_text
