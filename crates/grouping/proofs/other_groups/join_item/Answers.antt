use Rattle.std.proofs.lemmas.Result.{on_ok_weaker}
use Rattle.group_slots.specs.HeldTallies.{tallies_in}
use Rattle.grouping.proofs.Padded.{padded_joined}
use Rattle.grouping.proofs.other_groups.join_item.Goals as goal

pub returns-clause-joined : goal.returns-clause-joined
returns-clause-joined c =
    on_ok_weaker c.join_tallies.result
    (λ made. padded_joined c.args.groups.now (tallies_in c.args.others.now) c.args.found (tallies_in c.args.tallies.now) (tallies_in c.resize.new.self)
    (tallies_in c.join_tallies.new.tallies) c.requires.grown c.in_ok-resize.ensures made)
    c.join_tallies.ensures.joined
