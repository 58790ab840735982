use Rattle.command_ends.specs.Printing.{said_of}
use Rattle.client_commands.proofs.Writers.{stream_breaks}
use Rattle.client_commands.proofs.stream_rows.StreamWriterRowWriter.break_off.Goals as goal

pub returns : goal.returns
returns g c = stream_breaks c.args.self.now (said_of g.W.Output c.args.output.now) (said_of g.W.Output c.break_off.new.output) c.break_off.ensures
