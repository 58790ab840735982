use Rattle.std.proofs.Common.{◌≡◌, ℕ, List, Option}
use Rattle.version_cell.specs.Rests.{RestAt}
use Rattle.commands.specs.ShownSeat.{HasLearnt}
use Rattle.commands.specs.inside.Accepting.{FailsSo}
use Rattle.commands.proofs.turns.accept_next.Given as goal

abbrev pub invariant-loop : goal.invariant-loop
invariant-loop g l = record {
  next : (goal.iterator-loop g).can_next l.iterator';
  finite : (goal.iterator-loop g).is_finite l.iterator';
  failed : (failed : ℕ) × FailsSo g.L.Listen.accepts failed l.initial.network l.network;
  free : g.L.Listen.at_rest l.network;
  port : g.L.Listen.port_of l.network ≡ g.L.Listen.port_of l.initial.network;
  rests : (old : RestAt) × g.L.Listen.rests l.network old × HasLearnt old l.seat;
  due : (port : ℕ) (held : Option (List ℕ)) → g.L.Listen.due l.initial.network port held → g.L.Listen.due l.network port held;
  cell : (other : RestAt) → g.L.Listen.cell l.initial.network other → g.L.Listen.cell l.network other;
}
