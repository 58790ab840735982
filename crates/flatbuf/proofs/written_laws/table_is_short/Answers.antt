use Rattle.flatbuf.proofs.Lengths.{whole_table, short_table}
use Rattle.flatbuf.proofs.written_laws.table_is_short.Goals as goal

pub returns-clause-whole : goal.returns-clause-whole
returns-clause-whole c = whole_table

pub returns-clause-short : goal.returns-clause-short
returns-clause-short c = short_table
