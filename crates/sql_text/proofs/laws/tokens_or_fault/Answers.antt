use Rattle.sql_text.proofs.Cutting.{tokens_or_fault}
use Rattle.sql_text.proofs.laws.tokens_or_fault.Goals as goal

pub returns : goal.returns
returns c = tokens_or_fault
