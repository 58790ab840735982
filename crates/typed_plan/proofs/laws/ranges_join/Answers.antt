use Rattle.typed_plan.proofs.Ranges.{ranges_join}
use Rattle.typed_plan.proofs.laws.ranges_join.Goals as goal

pub returns : goal.returns
returns c = ranges_join
