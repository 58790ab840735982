use Rattle.std.proofs.Common.{◌<◌, length, get_or, arith, refl}
use Rattle.std.proofs.lemmas.List.{length-map}
use Rattle.std.proofs.lemmas.List.Elements.{All-get_or}
use Rattle.scan_base.specs.Limits.{most_rows}
use Rattle.group_slots.specs.HeldTallies.{count_tally}
use Rattle.grouping.proofs.JoinedCounts.{count_join, joined_few}
use Rattle.grouping.proofs.other_groups.join_counts.Goals as goal
use Rattle.grouping.proofs.other_groups.join_counts.Goals.{In-loop-k}

-- the group is there
there : (c : In-loop-k) → get_or c.args.groups.now c.loop-k.k 0 < length c.loop-k.counts
there c =
    let low = All-get_or (λ group. group < length c.args.counts.now) c.args.groups.now c.loop-k.k 0 (omega arith) c.requires.grouped in
    omega (arith, low, c.loop-k.invariant.long, length-map c.loop-k.counts count_tally, length-map c.args.counts.now count_tally)

pub overflow_add-counts : goal.overflow_add-counts
overflow_add-counts c =
    let few = joined_few c.args.groups.now c.args.others.now _ c.loop-k.k c.loop-k.counts most_rows 0 0 c.loop-k.invariant
    (omega (arith, c.requires.long)) (there (goal.at.overflow_add-counts c).In-loop-k) c.requires.few in
    record { fits = omega (arith, few) }

pub loop-k-preserved : goal.loop-k-preserved
loop-k-preserved c =
    count_join c.args.groups.now c.args.others.now _ c.loop-k.k c.loop-k.counts 0 0 _ c.loop-k.invariant
    (omega (arith, c.requires.long)) (there (goal.at.loop-k-preserved c).In-loop-k) refl
