use Rattle.std.proofs.Common.{◌≡◌}
use Rattle.grpc_frame.specs.Sending.{Sent}
use Rattle.row_text.proofs.Rows.{column_cell}
use Rattle.row_text.proofs.Numbered.{written}
use Rattle.row_text.proofs.walk.send_row.Given as goal

abbrev pub invariant-loop-index : goal.invariant-loop-index
invariant-loop-index g l =
    let format = g.F.RowFormat.format l.format in
    record {
      sent : Sent (g.W.Output.contents l.fn.writer) (g.W.Output.contents l.writer) l.fn.outbox l.outbox (written format (column_cell format l.fn.row.columns.now l.fn.row.place) l.fn.row.columns.now l.index);
      count : g.W.Output.failures l.writer ≡ g.W.Output.failures l.fn.writer;
    }
