use Rattle.std.proofs.Common.{◌≡◌, drop}
use Rattle.ipc_batch.specs.State.{values_under}
use Rattle.ipc_batch.proofs.dictionaries.Dictionaries.get.Given as goal

abbrev pub invariant-loop-entry : goal.invariant-loop-entry
invariant-loop-entry l = values_under (drop l.entry-index l.self) l.id ≡ values_under l.self l.id
