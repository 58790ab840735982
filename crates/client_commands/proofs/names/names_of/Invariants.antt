use Rattle.client_commands.proofs.Listing.{ListsFirst}
use Rattle.client_commands.proofs.names.names_of.Given as goal

abbrev pub invariant-loop-batch : goal.invariant-loop-batch
invariant-loop-batch l = ListsFirst l.batches l.batch-index l.names.items
