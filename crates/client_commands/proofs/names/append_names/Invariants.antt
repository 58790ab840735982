use Rattle.client_commands.proofs.Listing.{IsListed}
use Rattle.client_commands.proofs.names.append_names.Given as goal

abbrev pub invariant-loop-place : goal.invariant-loop-place
invariant-loop-place l = IsListed l.batch l.place l.initial.names.items l.names.items
