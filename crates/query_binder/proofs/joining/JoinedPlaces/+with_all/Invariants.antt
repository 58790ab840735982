use Rattle.std.proofs.Common.{length}
use Rattle.query_binder.proofs.joining.JoinedPlaces.+with_all.Given as goal

abbrev pub decreases-with_all : goal.decreases-with_all
decreases-with_all l = length l.joins.now
