use Rattle.flatbuf.proofs.Lengths.{whole_tables, short_tables}
use Rattle.flatbuf.proofs.written_laws.tables_are_short.Goals as goal

pub returns-clause-whole : goal.returns-clause-whole
returns-clause-whole c = whole_tables

pub returns-clause-short : goal.returns-clause-short
returns-clause-short c = short_tables
