use Rattle.std.proofs.Common.{◌≡◌, ap, ◌∙◌}
use Rattle.version_cell.specs.Seats.{Seat}
use Rattle.version_cell.specs.SignedEntries.{log_of}
use Rattle.version_cell.proofs.Logs.{either_begins_of}
use Rattle.version_cell.proofs.scanner.Scanner.is_within.Goals as goal

pub returns : goal.returns
returns g c =
    let mine : log_of c.history.result.now.seen.log ≡ c.args.self.now.log = ap log_of c.history.ensures.log ∙ ap (λ (s : Seat). s.log) c.self.view_is in
    rw (mine, c.history-2.ensures.log) at (either_begins_of c.begins.result c.history.result.now.seen.log c.history-2.result.now.seen.log c.begins.ensures)
