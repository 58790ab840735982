use Rattle.std.proofs.Common.{◌≡◌}
use Rattle.version_cell.specs.Rests.{RestAt}
use Rattle.commands.specs.ShownSeat.{HasLearnt, IsShownAs}
use Rattle.commands.specs.Serve.{AcceptsThenCloses, worker_of}
use Rattle.commands.proofs.Serving.{ServedSo}
use Rattle.commands.proofs.turns.serve_in_turn.Given as goal

abbrev pub invariant-loop : goal.invariant-loop
invariant-loop g l = record {
  next : (goal.iterator-loop g).can_next l.iterator';
  finite : (goal.iterator-loop g).is_finite l.iterator';
  name : l.drawer.name ≡ l.service.turns.now.name;
  parts : l.drawer.parts ≡ 1;
  served : ServedSo (AcceptsThenCloses g.L.Listen.accepts g.L.Listen.closes) g.B.Backend.moves l.service.options l.drawer.drawn
      (worker_of l.initial.network (g.B.Backend.seat l.initial.backend)) (worker_of l.network (g.B.Backend.seat l.backend));
  free : g.L.Listen.at_rest l.network;
  port : g.L.Listen.port_of l.network ≡ g.L.Listen.port_of l.initial.network;
  shown : IsShownAs l.shown g.B.RestingBackend.book g.B.RestingBackend.number (g.B.Backend.seat l.backend);
  rests : (old : RestAt) × g.L.Listen.rests l.network old × HasLearnt old l.shown;
  due : g.L.Listen.due l.network l.service.announced.now.port l.service.announced.now.held;
  cell : (seat : RestAt) → seat.book ≡ g.B.RestingBackend.book → g.L.Listen.cell l.network seat;
}
