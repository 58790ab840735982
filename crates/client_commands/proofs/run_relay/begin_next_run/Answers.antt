use Rattle.std.proofs.Common.{List, Ok, Err}
use Rattle.std.proofs.lemmas.Result.{err_from_is_err_and}
use Rattle.flight_proto.specs.FlightInfo.{EndpointSaid, endpoint_said}
use Rattle.flight_client.specs.Stream.{StreamAt}
use Rattle.command_line.specs.declared.request.Format.{Format}
use Rattle.client_calls.specs.Taking.{FetchAt}
use Rattle.command_ends.specs.Printing.{Said}
use Rattle.client_commands.specs.declared.fetch_failure.FetchFailure.{FetchFailure}
use Rattle.client_commands.specs.declared.fetch_failure.FetchFailure.TheVariants.{Failed, Unconnected}
use Rattle.client_commands.specs.Lines.{opened_line}
use Rattle.client_commands.specs.ParallelFetch.{Giving}
use Rattle.client_commands.specs.inside.Writers.{Breaks, WriterAt}
use Rattle.client_commands.specs.inside.Turns.{BeginsAtLast, BeginsNext}
use Rattle.client_commands.specs.inside.Runs.{AreSent, OpenAt}
use Rattle.client_commands.proofs.Rows.{breaks_sent, not_opened, opens_by}
use Rattle.client_commands.proofs.run_relay.begin_next_run.Goals as goal

-- it was not begun
lost_over : {N V W : Type 0} (format : Format) (Gives : Giving N) (fetch : V → FetchAt) (view : W → OpenAt) (endpoint : EndpointSaid) (handle : N) (streams : List StreamAt) (said mid out : Said) (writer : WriterAt) (lost : FetchFailure)
    → AreSent format streams said writer mid → Breaks format writer mid out → BeginsAtLast Gives fetch endpoint.ticket handle (Err lost) → BeginsNext Gives format view endpoint handle streams said (Err lost) out
lost_over format Gives fetch view endpoint handle streams said mid out writer (Failed failure) sent breaks begins =
    (begins.0, begins.1, not_opened format view streams endpoint (opened_line begins.0) said mid out writer sent failure breaks begins.2)
lost_over format Gives fetch view endpoint handle streams said mid out writer (Unconnected error) sent breaks begins =
    (begins, breaks_sent format streams said mid out writer sent breaks)

pub returns-in_err-check_columns-in-Ok : goal.returns-in_err-check_columns-in-Ok
returns-in_err-check_columns-in-Ok g c handle streams said made sent =
    let p = err_from_is_err_and c.from_residual.result c.from_residual.ensures.1 in
    let begins = c.in-Ok.ensures.begins handle made in
    rw (p.1, p.2)
    (begins.0, begins.1, opens_by g.F.RowWriter.format {A = OpenAt} (λ (passing : OpenAt). passing) streams (endpoint_said c.args.next.now) (opened_line begins.0) said _ _ (g.F.RowWriter.state c.args.writer) sent c.in-Ok.fetching (Err c.in_err-check_columns-in-Ok.field-0.0) begins.2 c.in_err-check_columns-in-Ok.ensures)

pub returns-in_ok-check_columns-in-Ok : goal.returns-in_ok-check_columns-in-Ok
returns-in_ok-check_columns-in-Ok g c handle streams said made sent =
    let begins = c.in-Ok.ensures.begins handle made in
    (begins.0, begins.1, opens_by g.F.RowWriter.format {A = OpenAt} (λ (passing : OpenAt). passing) streams (endpoint_said c.args.next.now) (opened_line begins.0) said _ _ (g.F.RowWriter.state c.args.writer) sent c.in-Ok.fetching (Ok c.in_ok-check_columns-in-Ok.field-0) begins.2 c.in_ok-check_columns-in-Ok.ensures)

pub returns-in-Err : goal.returns-in-Err
returns-in-Err g c handle streams said made sent =
    lost_over g.F.RowWriter.format (λ old ends new. g.C.Connect.connects old c.args.writing.port ends new) (λ (fetching : FetchAt). fetching) (λ (passing : OpenAt). passing) (endpoint_said c.args.next.now) handle streams said _ _ (g.F.RowWriter.state c.args.writer) c.in-Err.lost sent c.break_off.ensures (c.in-Err.ensures.begins handle made)
