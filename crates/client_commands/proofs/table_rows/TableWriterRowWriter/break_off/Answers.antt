use Rattle.std.proofs.Common.{refl}
use Rattle.command_ends.specs.Printing.{said_of}
use Rattle.client_commands.proofs.Writers.{table_breaks}
use Rattle.client_commands.proofs.table_rows.TableWriterRowWriter.break_off.Goals as goal

pub returns : goal.returns
returns g c schema rows start taken =
    let out = said_of g.W.Output c.args._output.now in
    table_breaks schema rows rows start c.args.self.now out out refl taken
