use Rattle.std.proofs.Common.{rules, arith}
use Rattle.connection_turns.proofs.Drawing.{looks}
use Rattle.connection_turns.proofs.turns.Turns.look.Goals as goal

pub load-requires : goal.load-requires
load-requires c = (search rules, omega (arith, c.self.invariant.0), looks _ _ _ _ _ (search rules))
