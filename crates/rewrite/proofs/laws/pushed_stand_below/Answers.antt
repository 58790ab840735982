use Rattle.rewrite.proofs.Below.{pushed_stand_below}
use Rattle.rewrite.proofs.laws.pushed_stand_below.Goals as goal

pub returns : goal.returns
returns c = pushed_stand_below
