use Rattle.typed_plan.specs.View.{tree_of}
use Rattle.row_sources.proofs.Sizes.{tree_size}
use Rattle.row_sources.proofs.build.+build.Given as goal

abbrev pub decreases-build : goal.decreases-build
decreases-build g l = tree_size (tree_of l.plan)
