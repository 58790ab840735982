use Rattle.std.proofs.Common.{[]}
use Rattle.row_stream.specs.Stream.{numbered_schema}
use Rattle.client_commands.proofs.Writers.{stream_begins, stream_causes}
use Rattle.client_commands.proofs.stream_rows.StreamWriterRowWriter.begin.Goals as goal

pub returns-clause-bytes : goal.returns-clause-bytes
returns-clause-bytes g c = stream_begins c.begin.result c.args.schema.now (g.W.Output.contents c.args.output.now) (g.W.Output.contents c.begin.new.output) c.begin.ensures.bytes

pub returns-clause-cause : goal.returns-clause-cause
returns-clause-cause g c = stream_causes (numbered_schema c.args.schema.now) [] c.begin.result c.begin.ensures.cause
