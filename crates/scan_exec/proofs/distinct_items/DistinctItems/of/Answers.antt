use Rattle.std.proofs.Common.{List, take, sym, subst}
use Rattle.std.proofs.lemmas.List.{take_more}
use Rattle.typed_plan.specs.declared.plan.Aggregate.{Aggregate}
use Rattle.typed_plan.specs.declared.plan.Aggregate.TheVariants.{Key}
use Rattle.scan_exec.specs.DistinctItems.{StandFor}
use Rattle.scan_exec.proofs.distinct_items.DistinctItems.of.Goals as goal

pub loop-item-preserved : goal.loop-item-preserved
loop-item-preserved c =
    let i = c.loop-item.item-index in
    let items = c.args.items.now in
    subst (λ (all : List Aggregate). StandFor all c.push.new.self.items.items c.push.new.self.places.items)
    (sym (take_more items i (Key 0) c.loop-item-test.true)) (c.in_ok-push.ensures (take i items) c.loop-item.invariant)
