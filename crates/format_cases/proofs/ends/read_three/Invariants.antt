use Rattle.std.proofs.Common.{◌≡◌}
use Rattle.format_cases.proofs.ends.read_three.Given as goal

abbrev pub invariant-loop : goal.invariant-loop
invariant-loop g l = g.R.Input.failures l.input ≡ g.R.Input.failures l.initial.input
