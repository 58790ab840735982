use Rattle.std.proofs.Common.{◌≡◌, drop}
use Rattle.std.specs.List.{list_any}
use Rattle.ipc_batch.specs.SaidRows.{leads_to}
use Rattle.ipc_batch.proofs.reader.has_dictionary.Given as goal

abbrev pub invariant-loop-field : goal.invariant-loop-field
invariant-loop-field l = list_any (leads_to l.id) (drop l.field-index l.fields) ≡ list_any (leads_to l.id) l.fields
