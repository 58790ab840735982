use Rattle.std.proofs.Common.{◌≡◌, [], rules}
use Rattle.commands.proofs.Crews.{all_drawn, all_gathered, last_drawn, none_gathered, one_gathered, takes_so}
use Rattle.commands.proofs.crew.first_of.Goals as goal

pub loop-worker-init : goal.loop-worker-init
loop-worker-init g c = none_gathered c.args.workers.items c.args.seats c.args.turns.now.name c.args.drawer c.requires.none.0 c.requires.none.1 c.requires.each c.requires.drawer c.requires.worked

pub unwrap-requires : goal.unwrap-requires
unwrap-requires g c =
    let drawn = last_drawn c.args.turns.now.name c.args.workers.items c.loop-worker.workers.items c.pop.new.self.items c.in-Some.worker c.loop-worker.seats
    c.loop-worker.first c.loop-worker.drawer c.loop-worker.invariant (search rules) in
    search rules

pub take_back-requires-clause-other : goal.take_back-requires-clause-other
take_back-requires-clause-other g c =
    (last_drawn c.args.turns.now.name c.args.workers.items c.loop-worker.workers.items c.pop.new.self.items c.in-Some.worker c.loop-worker.seats
    c.loop-worker.first c.loop-worker.drawer c.loop-worker.invariant (search rules)).1

pub loop-worker-preserved : goal.loop-worker-preserved
loop-worker-preserved g c =
    one_gathered c.args.workers.items c.loop-worker.workers.items c.pop.new.self.items c.in-Some.worker c.loop-worker.seats c.take.new.self
    c.loop-worker.first c.and-first.result c.args.turns.now.name c.loop-worker.drawer c.take_back.new.mine c.loop-worker.invariant (search rules)
    (takes_so c.in-Some.worker.scanner c.unwrap.result c.loop-worker.seats c.take.new.self (search rules) c.take.ensures.log c.take.ensures.seen c.take.ensures.seats c.take.ensures.made c.take.ensures.each)
    (search rules) c.take_back.ensures

pub returns-clause-first : goal.returns-clause-first
returns-clause-first g c =
    let empty : c.loop-worker.workers.items ≡ [] = search rules in
    (all_gathered c.args.workers.items c.loop-worker.seats c.loop-worker.first c.args.turns.now.name c.loop-worker.drawer (rw empty at c.loop-worker.invariant)).first

pub returns-clause-within : goal.returns-clause-within
returns-clause-within g c =
    let empty : c.loop-worker.workers.items ≡ [] = search rules in
    (all_gathered c.args.workers.items c.loop-worker.seats c.loop-worker.first c.args.turns.now.name c.loop-worker.drawer (rw empty at c.loop-worker.invariant)).within

pub returns-clause-many : goal.returns-clause-many
returns-clause-many g c =
    let empty : c.loop-worker.workers.items ≡ [] = search rules in
    (all_gathered c.args.workers.items c.loop-worker.seats c.loop-worker.first c.args.turns.now.name c.loop-worker.drawer (rw empty at c.loop-worker.invariant)).many

pub returns-clause-made : goal.returns-clause-made
returns-clause-made g c =
    let empty : c.loop-worker.workers.items ≡ [] = search rules in
    (all_gathered c.args.workers.items c.loop-worker.seats c.loop-worker.first c.args.turns.now.name c.loop-worker.drawer (rw empty at c.loop-worker.invariant)).made

pub returns-clause-each : goal.returns-clause-each
returns-clause-each g c =
    let empty : c.loop-worker.workers.items ≡ [] = search rules in
    (all_gathered c.args.workers.items c.loop-worker.seats c.loop-worker.first c.args.turns.now.name c.loop-worker.drawer (rw empty at c.loop-worker.invariant)).each

pub returns-clause-drawn : goal.returns-clause-drawn
returns-clause-drawn g c =
    let empty : c.loop-worker.workers.items ≡ [] = search rules in
    all_drawn c.args.workers.items c.loop-worker.seats c.loop-worker.first c.args.turns.now.name c.loop-worker.drawer c.args.turns.now.most
    (rw empty at c.loop-worker.invariant) c.learn.ensures.most c.learn.ensures.ended
