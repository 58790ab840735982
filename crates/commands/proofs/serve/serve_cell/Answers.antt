use Rattle.std.proofs.Common.{◌∙◌, rules, sym}
use Rattle.commands.proofs.Crews.{dues_so, may_serve, port_served}
use Rattle.commands.proofs.serve.serve_cell.Goals as goal

pub serve_side_by_side-requires-clause-may : goal.serve_side_by_side-requires-clause-may
serve_side_by_side-requires-clause-may g c κs lives =
    let printed = c.in_ok-announced.ensures in
    rw c.options_of.ensures
    (may_serve g.L.Listen.at_rest g.L.Listen.port_of g.L.Listen.rests g.L.Listen.cell g.L.Listen.due g.L.Listen.owed _ c.args.network.now _ _ _ _
    (printed.port ∙ sym c.requires.port)
    (dues_so g.L.Listen.due c.args.network.now _ _ _ _ c.requires.due printed.bytes printed.port printed.held)
    c.requires.owed c.in_ok-workers.ensures.made.2 c.in_ok-workers.ensures.made.3 c.in_ok-workers.ensures.made.4)

pub returns-clause-serves : goal.returns-clause-serves
returns-clause-serves g c = search (rules, port_served)
