use Rattle.sql_text.proofs.Cutting.{refusal_is_first_fault}
use Rattle.sql_text.proofs.laws.refusal_is_first_fault.Goals as goal

pub returns : goal.returns
returns c = refusal_is_first_fault
