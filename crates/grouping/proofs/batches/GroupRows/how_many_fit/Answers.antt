use Rattle.grouping.specs.inside.Finishing.{groups_in}
use Rattle.grouping.proofs.Light.{fit_more}
use Rattle.grouping.proofs.batches.GroupRows.how_many_fit.Goals as goal

pub loop-item-preserved : goal.loop-item-preserved
loop-item-preserved c =
    fit_more (groups_in c.args.self.now) c.args.from c.args.most c.loop-item.item c.loop-item.count c.in_ok-count.count c.loop-item.invariant c.in_ok-count.ensures
