use Rattle.std.proofs.Common.{rules, arith}
use Rattle.connection_turns.proofs.Drawing.{learns}
use Rattle.connection_turns.proofs.turns.Turns.learn.Goals as goal

pub compare_exchange-requires : goal.compare_exchange-requires
compare_exchange-requires c = (search rules, omega (arith, c.self.invariant.0), learns _ _ _ _ _ _ (search rules) c.self.invariant.1)
