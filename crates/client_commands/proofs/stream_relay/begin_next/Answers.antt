use Rattle.std.proofs.Common.{Err, sym, subst}
use Rattle.flight_proto.specs.FlightInfo.{endpoint_said}
use Rattle.command_ends.specs.Printing.{said_of}
use Rattle.client_commands.specs.inside.Runs.{AreSent, Opens, HandoverAt, OpenAt}
use Rattle.client_commands.proofs.Rows.{not_opened, opens_by}
use Rattle.client_commands.proofs.stream_relay.begin_next.Goals as goal

pub returns-in-Ok-clause-opens : goal.returns-in-Ok-clause-opens
returns-in-Ok-clause-opens g c streams begun sent =
    let mid = said_of g.O.Output c.args.output.now in
    let out = said_of g.O.Output c.check_columns.new.output in
    let endpoint = endpoint_said c.args.endpoint.now in
    let was = subst (λ (now : HandoverAt). AreSent g.F.RowWriter.format streams begun now.writer mid) (sym c.passed.view_is) sent in
    let it = rw c.deref.ensures.value at c.in-Ok.ensures in
    subst (λ (now : HandoverAt). Opens {A = OpenAt} g.F.RowWriter.format (λ (passing : OpenAt). passing) c.check_columns.result streams endpoint now.line begun out) c.passed.view_is
    (opens_by g.F.RowWriter.format {A = OpenAt} (λ (passing : OpenAt). passing) streams endpoint c.passed.inside.connection begun mid out (g.F.RowWriter.state c.passed.inside.writer) was c.in-Ok.fetching c.check_columns.result it c.check_columns.ensures)

pub returns-in-Err-clause-opens : goal.returns-in-Err-clause-opens
returns-in-Err-clause-opens g c streams begun sent =
    let mid = said_of g.O.Output c.args.output.now in
    let out = said_of g.O.Output c.break_off.new.output in
    let endpoint = endpoint_said c.args.endpoint.now in
    let was = subst (λ (now : HandoverAt). AreSent g.F.RowWriter.format streams begun now.writer mid) (sym c.passed.view_is) sent in
    let stops = rw c.deref.ensures.value at c.in-Err.ensures in
    subst (λ (now : HandoverAt). Opens {A = OpenAt} g.F.RowWriter.format (λ (passing : OpenAt). passing) (Err c.in-Err.failure) streams endpoint now.line begun out) c.passed.view_is
    (not_opened g.F.RowWriter.format {A = OpenAt} (λ (passing : OpenAt). passing) streams endpoint c.passed.inside.connection begun mid out (g.F.RowWriter.state c.passed.inside.writer) was c.in-Err.failure c.break_off.ensures stops)
