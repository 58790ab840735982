use Rattle.std.proofs.Common.{length}
use Rattle.std.specs.Vec.Iter.{into_iter_items}
use Rattle.commands.proofs.Crews.{Begun}
use Rattle.commands.proofs.crew.workers_of.Given as goal

abbrev pub invariant-loop-scanner : goal.invariant-loop-scanner
invariant-loop-scanner g l =
    Begun g.L.Listen.shares g.L.Listen.at_rest g.L.Listen.port_of g.L.Listen.rests g.L.Listen.cell g.L.Listen.due g.L.Listen.handed l.initial.network l.network g.C.CellName.book l.turns.name l.drawer l.workers.items (into_iter_items l.scanner-iterator) (length l.fn.scanners.items)
