use Rattle.std.proofs.Common.{rules, arith}
use Rattle.connection_turns.proofs.Drawing.{cuts}
use Rattle.connection_turns.proofs.turns.Turns.cut.Goals as goal

pub split_seat-seat-requires : goal.split_seat-seat-requires
split_seat-seat-requires c = (search rules, omega (arith, c.self.invariant.0), cuts _ _ _ (search rules))
