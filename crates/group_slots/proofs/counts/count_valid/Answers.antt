use Rattle.std.proofs.Common.{◌<◌, length, get_or, arith}
use Rattle.std.proofs.lemmas.List.{length-map}
use Rattle.std.proofs.lemmas.List.Elements.{All-get_or}
use Rattle.typed_plan.specs.declared.plan.Aggregate.TheVariants.{Count}
use Rattle.group_slots.specs.HeldTallies.{count_tally}
use Rattle.group_slots.proofs.Counted.{count_few, count_step, counted_more}
use Rattle.group_slots.proofs.counts.count_valid.Goals as goal
use Rattle.group_slots.proofs.counts.count_valid.Goals.{In-loop-k}

-- the group is there
there : (c : In-loop-k) → get_or c.args.part.now.groups.now c.loop-k.k 0 < length c.loop-k.counts
there c =
    let low = All-get_or (λ group. group < length c.args.counts.now) c.args.part.now.groups.now c.loop-k.k 0 (omega arith) c.requires.grouped in
    omega (arith, low, c.loop-k.invariant.long, length-map c.loop-k.counts count_tally, length-map c.args.counts.now count_tally)

pub overflow_add-counts : goal.overflow_add-counts
overflow_add-counts c =
    let few = count_few _ c.loop-k.counts (get_or c.args.part.now.groups.now c.loop-k.k 0) 0 c.loop-k.invariant.small (there (goal.at.overflow_add-counts c).In-loop-k) in
    record { fits = omega (arith, few, c.requires.few, c.valid_count.ensures.one) }

pub loop-k-preserved : goal.loop-k-preserved
loop-k-preserved c =
    count_step (Count c.args.column) _ c.args.part.now.groups.now _ _ _ c.loop-k.k c.loop-k.counts 0 _ c.loop-k.invariant (there (goal.at.loop-k-preserved c).In-loop-k)
    (counted_more _ _ _ c.valid_count.ensures.counted) (omega (arith, c.valid_count.ensures.one))
