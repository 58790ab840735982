use Rattle.std.proofs.Common.{◌≡◌, ap, subst}
use Rattle.version_log.specs.Log.{Log, Begins}
use Rattle.version_cell.specs.Seats.{Seat}
use Rattle.version_cell.specs.SignedEntries.{log_of}
use Rattle.version_cell.proofs.Logs.{begins_of}
use Rattle.version_cell.proofs.scanner.Scanner.learn.Goals as goal

pub returns-clause-begins : goal.returns-clause-begins
returns-clause-begins g c =
    let same : log_of c.self.inside.maker.seen ≡ c.args.self.now.log = ap (λ (s : Seat). s.log) c.self.view_is in
    subst (λ (l : Log). Begins l (log_of c.learn.new.self.seen)) same (begins_of c.self.inside.maker.seen c.learn.new.self.seen c.learn.ensures.kept)
