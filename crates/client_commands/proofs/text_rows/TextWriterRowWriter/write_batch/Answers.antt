use Rattle.std.proofs.Common.{[], ◌∷◌, refl}
use Rattle.command_ends.specs.Printing.{said_of}
use Rattle.client_commands.specs.inside.Writers.{WriterAt}
use Rattle.client_commands.proofs.Texts.{causes, counts_writes, rows_sent}
use Rattle.client_commands.proofs.text_rows.TextWriterRowWriter.write_batch.Goals as goal

pub returns-clause-bytes : goal.returns-clause-bytes
returns-clause-bytes g c =
    let before : WriterAt = record { schema = c.args.self.now.schema; waiting = c.args.self.now.outbox; batches = [] } in
    let after : WriterAt = record { schema = c.args.self.now.schema; waiting = c.send_rows.new.outbox; batches = [] } in
    let sent = rw c.as_slice-fields.ensures at c.send_rows.ensures.bytes in
    rows_sent g.K.TextFormat.name g.met.K.TextFormat.text c.args.batch before after (said_of g.W.Output c.args.output.now) (said_of g.W.Output c.send_rows.new.writer) refl c.send_rows.result c.send_rows.ensures.fault sent

pub returns-clause-counted : goal.returns-clause-counted
returns-clause-counted g c = counts_writes c.send_rows.result _ _ c.send_rows.ensures.counted c.send_rows.ensures.fault

pub returns-clause-cause : goal.returns-clause-cause
returns-clause-cause g c = causes g.K.TextFormat.name c.args.self.now.schema (c.args.batch ∷ []) c.send_rows.result c.send_rows.ensures.fault
