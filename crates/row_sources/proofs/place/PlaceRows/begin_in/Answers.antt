use Rattle.std.proofs.Common.{◌<◌, inr, arith}
use Rattle.row_sources.proofs.PartPlace.{begins_at}
use Rattle.row_sources.proofs.place.PlaceRows.begin_in.Goals as goal

pub returns-else-number-eq0 : goal.returns-else-number-eq0
returns-else-number-eq0 c =
    let more : 0 < c.args.number = omega (arith, c.if-number-eq0.false) in
    (begins_at c.args.self.now.table c.args.self.now.cursor c.requires.placed c.args.number c.requires.there (inr more)).1 more
