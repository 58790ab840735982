use Rattle.std.proofs.Common.{◌<◌, length, get_or, arith}
use Rattle.std.proofs.lemmas.List.Elements.{All-get_or}
use Rattle.scan_base.specs.Limits.{most_rows}
use Rattle.grouping.proofs.JoiningAll.{few_both, step}
use Rattle.grouping.proofs.other_groups.join_sums.Goals as goal
use Rattle.grouping.proofs.other_groups.join_sums.Goals.{In-loop-k}

-- the group is there
there : (c : In-loop-k) → get_or c.args.groups.now c.loop-k.k 0 < length c.loop-k.tallies
there c =
    let low = All-get_or (λ group. group < length c.args.tallies.now) c.args.groups.now c.loop-k.k 0 (omega arith) c.requires.grouped in
    omega (arith, low, c.loop-k.invariant.long)

pub with-requires-clause-few : goal.with-requires-clause-few
with-requires-clause-few c =
    few_both c.args.groups.now c.args.others.now c.args.tallies.now c.loop-k.k c.loop-k.tallies (get_or c.args.groups.now c.loop-k.k 0) most_rows _ _ c.loop-k.invariant
    (there (goal.at.with-requires-clause-few c).In-loop-k) (omega (arith, c.requires.long)) c.requires.few

pub with-requires-clause-small : goal.with-requires-clause-small
with-requires-clause-small c = c.loop-k.invariant.small.small (get_or c.args.groups.now c.loop-k.k 0) (there (goal.at.with-requires-clause-small c).In-loop-k)

pub with-requires-clause-other : goal.with-requires-clause-other
with-requires-clause-other c = c.requires.others.small c.loop-k.k (omega (arith, c.requires.long))

pub loop-k-preserved : goal.loop-k-preserved
loop-k-preserved c =
    step c.args.groups.now c.args.others.now c.args.tallies.now c.loop-k.k c.loop-k.tallies c.with.result c.loop-k.invariant
    (omega (arith, c.requires.long)) (there (goal.at.loop-k-preserved c).In-loop-k) c.with.ensures.both c.with.ensures.small
