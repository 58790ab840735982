use Rattle.std.proofs.Common.{[]}
use Rattle.version_cell.specs.Counts.{Counted}
use Rattle.version_cell.proofs.cell.zeros.Given as goal

abbrev pub invariant-loop : goal.invariant-loop
invariant-loop l = Counted l.zeros.items []
