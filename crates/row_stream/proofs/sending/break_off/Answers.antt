use Rattle.row_stream.proofs.SoFar.{wrote_either}
use Rattle.row_stream.proofs.sending.break_off.Goals as goal

pub returns : goal.returns
returns g c = wrote_either c.write_last-written.result _ _ _ _ _ c.write_last-written.ensures.bytes c.write_last-written.ensures.counted
