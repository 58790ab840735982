use Rattle.std.proofs.Common.{rules, arith}
use Rattle.connection_turns.proofs.Drawing.{joins}
use Rattle.connection_turns.proofs.turns.Turns.take_back.Goals as goal

pub join_seat-requires : goal.join_seat-requires
join_seat-requires c = (search rules, search rules, c.other.invariant, omega (arith, c.self.invariant.0), joins _ _ _ _ _)
