use Rattle.std.proofs.Common.{inl, refl}
use Rattle.std.proofs.lemmas.Result.{err_from_is_err_and}
use Rattle.grpc_frame.proofs.Outgoing.{failed_then}
use Rattle.flight_calls.proofs.Streaming.{first_given, made_behind, sends_fetch, stream_begins, stream_ends_by, stream_fails, stream_goes_on, stream_rest, stream_stops, stream_waits}
use Rattle.flight_calls.proofs.answer.send_fetch.Goals as goal

-- no memory for the first payload
pub returns-in-Err-clause-bytes : goal.returns-in-Err-clause-bytes
returns-in-Err-clause-bytes g c database handle opens =
    let law = c.streams_answer.ensures in
    let opening = c.args.opening in
    sends_fetch database handle law opening _ _ _ opens
    (stream_ends_by law _ _ opening opening _ _ _ (stream_begins law opening _) (λ none. inl c.in-Err.ensures.gives) c.send_status.ensures.bytes)

-- it was not sent
pub returns-in_err-send_first-clause-bytes : goal.returns-in_err-send_first-clause-bytes
returns-in_err-send_first-clause-bytes g c =
    let p = err_from_is_err_and c.from_residual.result c.from_residual.ensures.1 in
    let law = c.streams_answer.ensures in
    let opening = c.args.opening in
    let gives = first_given opening c.in-Ok.first c.in-Ok.ensures.before c.in-Ok.ensures.gives in
    rw (p.1, p.2) (λ database handle opens. sends_fetch database handle law opening _ _ _ opens
    (stream_fails law _ opening opening _ _ _ _ _ (stream_begins law opening _) gives c.in_err-send_first.ensures))

-- it was, and then a look failed while the rest was made
pub returns-in_err-stream-clause-bytes : goal.returns-in_err-stream-clause-bytes
returns-in_err-stream-clause-bytes g c =
    let p = err_from_is_err_and c.from_residual-in_err-stream.result c.from_residual-in_err-stream.ensures.1 in
    let law = c.streams_answer.ensures in
    let opening = c.args.opening in
    let gives = first_given opening c.in-Ok.first c.in-Ok.ensures.before c.in-Ok.ensures.gives in
    let sent = stream_goes_on law opening opening _ _ _ _ _ (stream_begins law opening _) gives c.in_ok-send_first.ensures in
    rw (p.1, p.2) (λ database handle opens. sends_fetch database handle law opening _ _ _ opens
    (stream_stops law _ opening _ _ _ _ sent c.in_err-stream.ensures.bytes))

-- it was, and then the rest, or not
pub returns-in-Some-clause-bytes : goal.returns-in-Some-clause-bytes
returns-in-Some-clause-bytes g c database handle opens =
    let law = c.streams_answer.ensures in
    let opening = c.args.opening in
    let gives = first_given opening c.in-Ok.first c.in-Ok.ensures.before c.in-Ok.ensures.gives in
    let sent = stream_goes_on law opening opening _ _ _ _ _ (stream_begins law opening _) gives c.in_ok-send_first.ensures in
    let waited = stream_waits law opening _ _ _ _ _ sent refl c.in_ok-stream.ensures.bytes in
    let made = made_behind opening c.in-Some.stream.stream c.behind_schema.result.stream c.in-Ok.ensures.before (rw c.in-Some.is at c.in_ok-stream.ensures.stream) c.behind_schema.ensures in
    sends_fetch database handle law opening _ _ _ opens
    (stream_rest law _ opening _ _ made _ _ _ waited c.send_rest.ensures.bytes)

-- no memory for the rest
pub returns-clause-bytes : goal.returns-clause-bytes
returns-clause-bytes g c database handle opens =
    let law = c.streams_answer.ensures in
    let opening = c.args.opening in
    let gives = first_given opening c.in-Ok.first c.in-Ok.ensures.before c.in-Ok.ensures.gives in
    let sent = stream_goes_on law opening opening _ _ _ _ _ (stream_begins law opening _) gives c.in_ok-send_first.ensures in
    let waited = stream_waits law opening _ _ _ _ _ sent refl c.in_ok-stream.ensures.bytes in
    sends_fetch database handle law opening _ _ _ opens
    (stream_ends_by law _ _ opening _ _ _ _ waited (λ none. inl refl) c.send_status-in-None.ensures.bytes)

-- ---- the count of failures

pub returns-in_err-send_first-clause-counted : goal.returns-in_err-send_first-clause-counted
returns-in_err-send_first-clause-counted g c =
    let p = err_from_is_err_and c.from_residual.result c.from_residual.ensures.1 in
    let failed = c.in_err-send_first.ensures in
    rw (p.1, p.2) (failed.0, failed.1.failed)

pub returns-in_err-stream-clause-counted : goal.returns-in_err-stream-clause-counted
returns-in_err-stream-clause-counted g c =
    let p = err_from_is_err_and c.from_residual-in_err-stream.result c.from_residual-in_err-stream.ensures.1 in
    let failed = c.in_err-stream.ensures.bytes in
    rw (p.1, p.2) (failed.0, failed_then _ _ _ c.in_ok-send_first.ensures.quiet failed.1.failed)
