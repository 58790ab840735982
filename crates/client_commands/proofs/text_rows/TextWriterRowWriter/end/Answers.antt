use Rattle.std.proofs.Common.{[]}
use Rattle.client_commands.specs.inside.Writers.{WriterAt}
use Rattle.client_commands.proofs.Texts.{counts, text_ends}
use Rattle.client_commands.proofs.text_rows.TextWriterRowWriter.end.Goals as goal

pub returns-clause-bytes : goal.returns-clause-bytes
returns-clause-bytes g c =
    let writer : WriterAt = record { schema = c.args.self.schema; waiting = c.args.self.outbox; batches = [] } in
    text_ends g.K.TextFormat.name g.met.K.TextFormat.text c.flush.result writer (g.W.Output.contents c.args.output.now) (g.W.Output.contents c.flush.new.writer) c.flush.ensures.bytes

pub returns-clause-counted : goal.returns-clause-counted
returns-clause-counted g c = counts c.flush.result _ _ c.flush.ensures.counted c.flush.ensures.kind
