use Rattle.std.proofs.Common.{subst}
use Rattle.std.specs.List.{flat_map}
use Rattle.arrays.specs.Batch.{rows_of}
use Rattle.grpc_frame.specs.Ends.{Writes}
use Rattle.row_text.specs.Tables.{table_of}
use Rattle.client_commands.specs.inside.Writers.{WriterAt}
use Rattle.client_commands.proofs.Texts.{counts}
use Rattle.client_commands.proofs.Writers.{table_ends}
use Rattle.client_commands.proofs.table_rows.TableWriterRowWriter.end.Goals as goal

pub returns-clause-bytes : goal.returns-clause-bytes
returns-clause-bytes g c =
    let a = g.W.Output.contents c.args.output.now in
    let b = g.W.Output.contents c.write_table.new.output in
    table_ends c.write_table.result c.args.self a b
    (subst (λ (w : WriterAt). Writes c.write_table.result a b (table_of w.schema (flat_map rows_of w.batches))) c.self.view_is (rw c.deref.ensures.value at c.write_table.ensures.bytes))

pub returns-clause-counted : goal.returns-clause-counted
returns-clause-counted g c = counts c.write_table.result _ _ c.write_table.ensures.counted c.write_table.ensures.fault
