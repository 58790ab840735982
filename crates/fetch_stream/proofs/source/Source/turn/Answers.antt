use Rattle.fetch_stream.proofs.Scanned.{scan_turns}
use Rattle.fetch_stream.proofs.source.Source.turn.Goals as goal

pub returns-in-Scanned : goal.returns-in-Scanned
returns-in-Scanned c =
    rw c.in-Scanned.is (scan_turns c.args.patience c.in-Scanned.scan c.turn.new.self c.turn.result (rw c.in-Scanned.is at c.requires) c.turn.ensures)
