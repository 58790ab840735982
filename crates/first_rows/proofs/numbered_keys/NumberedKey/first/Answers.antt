use Rattle.first_rows.specs.NumberedKeys.{first_of}
use Rattle.first_rows.proofs.KeyCells.{row_only}
use Rattle.first_rows.proofs.numbered_keys.NumberedKey.first.Goals as goal

pub returns : goal.returns
returns c = row_only (first_of c.args.self.now) _ _
