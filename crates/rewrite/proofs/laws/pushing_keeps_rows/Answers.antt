use Rattle.rewrite.proofs.PushedRows.{pushing_keeps_rows}
use Rattle.rewrite.proofs.laws.pushing_keeps_rows.Goals as goal

pub returns : goal.returns
returns c = pushing_keeps_rows
