use Rattle.flatbuf.proofs.Lengths.{whole_structs, short_structs}
use Rattle.flatbuf.proofs.written_laws.structs_are_short.Goals as goal

pub returns-clause-whole : goal.returns-clause-whole
returns-clause-whole c = whole_structs

pub returns-clause-short : goal.returns-clause-short
returns-clause-short c = short_structs
