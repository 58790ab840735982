use Rattle.client_commands.proofs.Writers.{stream_ends}
use Rattle.client_commands.proofs.stream_rows.StreamWriterRowWriter.end.Goals as goal

pub returns-clause-bytes : goal.returns-clause-bytes
returns-clause-bytes g c = stream_ends c.end.result c.args.self (g.W.Output.contents c.args.output.now) (g.W.Output.contents c.end.new.output) c.end.ensures.bytes
