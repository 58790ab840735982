use Rattle.std.proofs.Common.{◌≡◌, ◌≤◌, ◌<◌, ◌+◌}
use Rattle.fetch_stream.specs.inside.BatchCuts.{ReachesFar}
use Rattle.fetch_stream.proofs.cutter.Cutter.next.Given as goal

abbrev pub invariant-loop-slice : goal.invariant-loop-slice
invariant-loop-slice l = record {
  some : 0 < l.rows;
  few : l.rows ≤ l.fn.self.most;
  within : l.fn.self.at + l.rows ≤ l.fn.self.batch.rows;
  far : ReachesFar l.schema l.fn.self l.rows;
  same : l.self ≡ l.fn.self;
}

abbrev pub decreases-loop-slice : goal.decreases-loop-slice
decreases-loop-slice l = l.rows
