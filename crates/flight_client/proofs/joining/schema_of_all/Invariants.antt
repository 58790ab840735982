use Rattle.std.proofs.Common.{drop}
use Rattle.flight_client.proofs.Together.{IsRead}
use Rattle.flight_client.proofs.joining.schema_of_all.Given as goal

abbrev pub invariant-loop-other : goal.invariant-loop-other
invariant-loop-other l = IsRead l.others (drop l.other-index l.others) l.schema l.all_same
