use Rattle.std.proofs.Common.{◌≡◌, ◌+◌, drop}
use Rattle.ipc_batch.specs.Columns.{buffers_wanted}
use Rattle.ipc_batch.proofs.columns.have_buffers.Given as goal

abbrev pub invariant-loop-field : goal.invariant-loop-field
invariant-loop-field l = l.left + buffers_wanted l.fields ≡ l.count + buffers_wanted (drop l.field-index l.fields)
