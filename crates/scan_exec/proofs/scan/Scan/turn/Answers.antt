use Rattle.std.specs.Arc.{arc_value}
use Rattle.scan_exec.specs.Answering.{giving_at}
use Rattle.scan_exec.proofs.Scanning.{turned, refuses}
use Rattle.scan_exec.proofs.scan.Scan.turn.Goals as goal

pub returns-in-Ok : goal.returns-in-Ok
returns-in-Ok c =
    let s = c.self.inside in
    turned (arc_value s.schema) s.batches.items s.further (giving_at s.answer) (giving_at c.turn_counted.new.answer) s.given c.turn_counted.new.given c.self.invariant.1
    c.args.patience c.args.self.now s.refused c.in-Ok.found c.self.view_is c.in_default.is c.in-Ok.ensures.counts

pub returns-in-Err : goal.returns-in-Err
returns-in-Err c =
    let s = c.self.inside in
    refuses (arc_value s.schema) s.batches.items s.further (giving_at s.answer) (giving_at c.turn_counted.new.answer) s.given c.turn_counted.new.given c.self.invariant.1
    c.args.self.now s.refused c.in-Err.fault c.self.view_is c.in_default.is c.in-Err.ensures.counts
