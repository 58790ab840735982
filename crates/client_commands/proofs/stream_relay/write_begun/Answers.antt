use Rattle.std.proofs.Common.{sym, subst}
use Rattle.std.proofs.lemmas.Result.{err_from_is_err_and}
use Rattle.command_ends.specs.Printing.{said_of}
use Rattle.client_commands.specs.Streaming.{rows_held}
use Rattle.client_commands.specs.inside.Runs.{IsOpen, OpenAt}
use Rattle.client_commands.proofs.Rows.{passing_at, stream_passed, stream_stops}
use Rattle.client_commands.proofs.stream_relay.write_begun.Goals as goal

pub returns-in_err-write_batches-clause-passes : goal.returns-in_err-write_batches-clause-passes
returns-in_err-write_batches-clause-passes g c before endpoint line begun opened =
    let p = err_from_is_err_and c.from_residual.result c.from_residual.ensures.1 in
    let mid = said_of g.O.Output c.args.output.now in
    let at = subst (λ (now : OpenAt). IsOpen g.F.RowWriter.format before endpoint.ticket line begun now mid) (sym c.passing.view_is) opened in
    let stops = c.in_err-write_batches.ensures.passes _ at.schema _ (rows_held before) begun.bytes line at.begins.stream at.begins.no_rows (passing_at g.F.RowWriter.format before endpoint line begun mid _ at) in
    rw (p.1, p.2) (λ behind. stream_stops g.F.RowWriter.format before endpoint line begun mid _ at behind _ _ _ stops)

pub returns-clause-passes : goal.returns-clause-passes
returns-clause-passes g c before endpoint line begun opened =
    let mid = said_of g.O.Output c.args.output.now in
    let at = subst (λ (now : OpenAt). IsOpen g.F.RowWriter.format before endpoint.ticket line begun now mid) (sym c.passing.view_is) opened in
    let passed = c.in_ok-write_batches.ensures.passes _ at.schema _ (rows_held before) begun.bytes line at.begins.stream at.begins.no_rows (passing_at g.F.RowWriter.format before endpoint line begun mid _ at) in
    stream_passed g.F.RowWriter.format before endpoint line begun mid _ at c.write_batches.new.fetching _ _ c.end-connection.ensures.connection passed
