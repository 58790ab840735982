use Rattle.std.proofs.Common.{[]}
use Rattle.command_ends.specs.Printing.{said_of}
use Rattle.client_commands.specs.inside.Writers.{WriterAt}
use Rattle.client_commands.proofs.Texts.{text_breaks}
use Rattle.client_commands.proofs.text_rows.TextWriterRowWriter.break_off.Goals as goal

pub returns : goal.returns
returns g c =
    let writer : WriterAt = record { schema = c.args.self.now.schema; waiting = c.args.self.now.outbox; batches = [] } in
    text_breaks g.K.TextFormat.name g.met.K.TextFormat.text c.flush-written.result writer (said_of g.W.Output c.args.output.now) (said_of g.W.Output c.flush-written.new.writer) c.flush-written.ensures.bytes c.flush-written.ensures.counted
