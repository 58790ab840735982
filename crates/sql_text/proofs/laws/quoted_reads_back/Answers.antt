use Rattle.sql_text.proofs.Pairs.{quoted_reads_back}
use Rattle.sql_text.proofs.laws.quoted_reads_back.Goals as goal

pub returns : goal.returns
returns c = quoted_reads_back
