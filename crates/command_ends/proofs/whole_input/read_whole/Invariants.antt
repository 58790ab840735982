use Rattle.std.proofs.Common.{◌≡◌}
use Rattle.grpc_frame.specs.Ends.{Advances}
use Rattle.command_ends.proofs.whole_input.read_whole.Given as goal

abbrev pub invariant-loop-held : goal.invariant-loop-held
invariant-loop-held g l =
    Advances (g.R.Input.tape l.initial.input) (g.R.Input.tape l.input) l.held.items
    × (g.R.Input.failures l.input ≡ g.R.Input.failures l.initial.input)

abbrev pub decreases-loop-held : goal.decreases-loop-held
decreases-loop-held g l = g.R.Input.turns l.input
