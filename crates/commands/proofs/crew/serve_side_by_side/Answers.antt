use Rattle.std.proofs.Common.{List, rules, subst}
use Rattle.flight_core.specs.PlacedEntries.{Placed, placed}
use Rattle.version_cell.specs.Merges.{MergesAll}
use Rattle.commands.specs.Serve.{AcceptsThenCloses}
use Rattle.commands.proofs.Crews.{all_have_drawn, all_served, written}
use Rattle.commands.proofs.crew.serve_side_by_side.Goals as goal

pub first_of-first-requires-clause-worked : goal.first_of-first-requires-clause-worked
first_of-first-requires-clause-worked g c =
    let each = rw c.as_mut_slice.ensures.value at c.work_side_by_side.ensures in
    all_have_drawn (AcceptsThenCloses g.L.Listen.accepts g.L.Listen.closes) c.args.service.options c.args.service.turns.now.name
    c.args.workers.items c.work_side_by_side.new.workers _
    (written c.args.workers.items c.work_side_by_side.new.workers c.args.workers.len (search rules) (search rules)) (search rules) each

pub returns : goal.returns
returns g c =
    let each = rw c.as_mut_slice.ensures.value at c.work_side_by_side.ensures in
    let f = c.first_of-first.ensures in
    all_served (AcceptsThenCloses g.L.Listen.accepts g.L.Listen.closes) c.args.service.options c.args.service.turns.now.name c.args.service.turns.now.most c.whole_log.result
    c.args.workers.items c.work_side_by_side.new.workers _ c.first_of-first.result.0
    (written c.args.workers.items c.work_side_by_side.new.workers c.args.workers.len (search rules) (search rules)) (search rules) each
    c.first_of-first.result.1.log f.within c.whole_log.ensures.begins c.whole_log.ensures.is_log (search rules)
    (subst (λ (each : List (List Placed)). MergesAll each (placed 0 c.whole_log.result)) f.each c.whole_log.ensures.each) f.drawn f.first
