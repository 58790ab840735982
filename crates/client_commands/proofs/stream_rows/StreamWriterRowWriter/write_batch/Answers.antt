use Rattle.std.proofs.Common.{[], ◌∷◌}
use Rattle.command_ends.specs.Printing.{said_of}
use Rattle.client_commands.proofs.Writers.{stream_causes, stream_sends}
use Rattle.client_commands.proofs.stream_rows.StreamWriterRowWriter.write_batch.Goals as goal

pub returns-clause-bytes : goal.returns-clause-bytes
returns-clause-bytes g c =
    stream_sends c.write_batch.result c.args.batch c.args.self.now c.write_batch.new.self (said_of g.W.Output c.args.output.now) (said_of g.W.Output c.write_batch.new.output) c.write_batch.ensures.kept c.write_batch.ensures.bytes

pub returns-clause-cause : goal.returns-clause-cause
returns-clause-cause g c = stream_causes c.args.self.now.schema (c.args.batch ∷ []) c.write_batch.result c.write_batch.ensures.cause
