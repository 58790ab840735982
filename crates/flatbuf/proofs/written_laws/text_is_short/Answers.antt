use Rattle.flatbuf.proofs.Lengths.{whole_text, short_text}
use Rattle.flatbuf.proofs.written_laws.text_is_short.Goals as goal

pub returns-clause-whole : goal.returns-clause-whole
returns-clause-whole c = whole_text

pub returns-clause-short : goal.returns-clause-short
returns-clause-short c = short_text
