use Rattle.std.proofs.Common.{arith}
use Rattle.scan_exec.specs.GroupWork.{work_at}
use Rattle.scan_exec.proofs.Feeding.{none_yet}
use Rattle.scan_exec.proofs.group_work.GroupWork.begin_part.Goals as goal

pub invariant_of-result : goal.invariant_of-result
invariant_of-result c = (
  none_yet (work_at c.args.self.now) c.args.from c.args.to c.in_ok-groups.groups c.requires.can c.requires.ordered c.requires.there c.in_ok-groups.ensures,
  record {
    counts = c.weight.ensures;
    some = omega (arith, c.most_rows.ensures.some, c.min.ensures);
    few = omega (arith, c.most_rows.ensures.few, c.min.ensures);
  },
)
