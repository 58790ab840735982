use Rattle.std.proofs.Common.{[], inl, refl, sym}
use Rattle.std.proofs.lemmas.Result.{err_from_is_err_and}
use Rattle.flight_client.proofs.Together.{fields_same}
use Rattle.flight_proto.specs.FlightInfo.{endpoint_said}
use Rattle.client_commands.proofs.Rows.{begun_counts, fits_written, not_begun, opens_first, schema_unsent}
use Rattle.client_commands.proofs.stream_relay.begin_first.Goals as goal

pub returns-in_err-fetching : goal.returns-in_err-fetching
returns-in_err-fetching g c =
    let p = err_from_is_err_and c.from_residual.result c.from_residual.ensures.1 in
    let e = rw c.deref.ensures.value at c.in_err-fetching.ensures in
    rw (p.1, p.2) (λ behind. not_begun g.F.RowWriter.format [] behind (endpoint_said c.args.endpoint.now) c.args.connection _ e.0 _ _ (inl refl) e.1)

pub returns-in_err-writer : goal.returns-in_err-writer
returns-in_err-writer g c =
    let p = err_from_is_err_and c.from_residual-in_err-writer.result c.from_residual-in_err-writer.ensures.1 in
    let it = rw c.deref.ensures.value at c.in_ok-fetching.ensures in
    let is = sym (c.schema.ensures.value it.known it.has_schema) in
    rw (p.1, p.2)
    (λ behind. schema_unsent g.F.RowWriter.format g.F.RowWriter.state (endpoint_said c.args.endpoint.now) behind _ _ _ c.args.connection c.in_ok-fetching.fetching.line _ _ it is c.in_err-writer.ensures.bytes c.in_err-writer.ensures.cause c.in_err-writer.ensures.counted)

pub invariant_of-result : goal.invariant_of-result
invariant_of-result g c =
    let it = rw c.deref.ensures.value at c.in_ok-fetching.ensures in
    let schema = c.schema.result.now in
    let is = sym (c.schema.ensures.value it.known it.has_schema) in
    (fits_written g.F.RowWriter.format _ it.known schema schema _ it.has_schema is (fields_same schema.fields) c.in_ok-writer.ensures.bytes.written, begun_counts _ _ _ _ it c.requires.calls)

pub returns : goal.returns
returns g c =
    let it = rw c.deref.ensures.value at c.in_ok-fetching.ensures in
    let is = sym (c.schema.ensures.value it.known it.has_schema) in
    opens_first g.F.RowWriter.format (endpoint_said c.args.endpoint.now) c.args.connection _ _ _ c.schema.result.now it is c.in_ok-writer.ensures.bytes c.in_ok-writer.ensures.counted
