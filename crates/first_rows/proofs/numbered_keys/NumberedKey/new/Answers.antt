use Rattle.first_rows.proofs.KeyCells.{row_only}
use Rattle.first_rows.proofs.numbered_keys.NumberedKey.new.Goals as goal

pub returns-clause-first : goal.returns-clause-first
returns-clause-first c = row_only (c.args.first) _ _
