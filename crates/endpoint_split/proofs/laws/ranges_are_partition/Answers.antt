use Rattle.endpoint_split.proofs.Cuts.{ranges_are_partition}
use Rattle.endpoint_split.proofs.laws.ranges_are_partition.Goals as goal

pub returns : goal.returns
returns c = ranges_are_partition
