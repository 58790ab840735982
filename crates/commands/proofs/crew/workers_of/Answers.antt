use Rattle.std.proofs.Common.{inl, refl, rules}
use Rattle.std.specs.Vec.Iter.{into_iter_items}
use Rattle.commands.specs.inside.Gathering.{hired_listeners}
use Rattle.commands.proofs.Crews.{one_begins, shares_more}
use Rattle.commands.proofs.crew.workers_of.Goals as goal

pub loop-scanner-preserved : goal.loop-scanner-preserved
loop-scanner-preserved g c =
    one_begins g.L.Listen.shares g.L.Listen.at_rest g.L.Listen.port_of g.L.Listen.rests g.L.Listen.cell g.L.Listen.due g.L.Listen.handed
    c.args.network.now c.loop-scanner.network c.in-Ok.listener c.share.new.self g.C.CellName.book c.args.turns.now.name c.loop-scanner.drawer c.cut.new.mine c.cut.result
    c.loop-scanner.workers.items c.push.new.self.items c.in-Some.scanner (into_iter_items c.loop-scanner.scanner-iterator)
    (into_iter_items c.next.new.self) _ c.loop-scanner.invariant (search rules)
    (record {
      shared = c.in-Ok.ensures.made;
      counted = c.in-Ok.ensures.handed.0;
      free = c.in-Ok.ensures.at_rest;
      port = c.in-Ok.ensures.port;
      stands = c.in-Ok.ensures.rests;
      knows = c.in-Ok.ensures.cell;
      dues = c.in-Ok.ensures.due;
      keeps_port = c.share.ensures.keeps_port;
      keeps_cell = c.share.ensures.keeps_cell;
      keeps_due = c.share.ensures.keeps_due;
    })
    c.cut.ensures.mine c.cut.ensures.other (search rules)

pub returns-then-is_err-clause-made : goal.returns-then-is_err-clause-made
returns-then-is_err-clause-made g c =
    inl (
      refl,
      shares_more g.L.Listen.shares (hired_listeners c.loop-scanner.workers.items) c.in-Ok.listener c.args.network.now c.loop-scanner.network c.share.new.self
          c.loop-scanner.invariant.given c.in-Ok.ensures.made,
    )
