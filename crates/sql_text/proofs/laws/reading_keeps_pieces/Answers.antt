use Rattle.sql_text.proofs.Cutting.{reading_keeps_pieces}
use Rattle.sql_text.proofs.laws.reading_keeps_pieces.Goals as goal

pub returns : goal.returns
returns c = reading_keeps_pieces
