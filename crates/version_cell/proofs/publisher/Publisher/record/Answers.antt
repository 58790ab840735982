use Rattle.std.proofs.Common.{length, ap, arith}
use Rattle.version_cell.proofs.publisher.Publisher.record.Goals as goal

pub with-requires-clause-room : goal.with-requires-clause-room
with-requires-clause-room g c = omega (arith, ap length c.store-shown.ensures.log, c.requires.room)
