use Rattle.std.proofs.Common.{inl, inr}
use Rattle.client_calls.proofs.Next.{begins, begin_answers, begin_stops, lacks, valid_known}
use Rattle.flight_client.proofs.Arrivals.{schema_first}
use Rattle.client_calls.proofs.fetch_reader.take_schema.Goals as goal

pub invariant_of-result : goal.invariant_of-result
invariant_of-result g c =
    let takes = rw (c.new-stream.ensures, c.in-Ok-Ok-Payload.field-0-is, c.in-Ok-Ok-Payload.field-0-0-is) at c.in-Ok-Ok-Payload.ensures.takes in
    let known = schema_first takes.2.0 (record { state = c.take_payload.new.stream; batch = c.in-Ok-Ok-Payload.field-0-0-0 }) takes.2.2 in
    (c.in-Ok-Ok-Payload.ensures.place, (known.0, known.1, valid_known _ _ known.0 known.1 c.schema-schema.ensures.value c.schema-schema.ensures.valid))

pub returns-in-Ok-Ok-Payload : goal.returns-in-Ok-Ok-Payload
returns-in-Ok-Ok-Payload g c ticket begun sends =
    let sends = rw (← c.into_parts-inbox.ensures.line) at sends in
    let takes = rw (c.new-stream.ensures, c.in-Ok-Ok-Payload.field-0-is, c.in-Ok-Ok-Payload.field-0-0-is) at c.in-Ok-Ok-Payload.ensures.takes in
    begins ticket begun _ _ _ _ sends c.into_parts-inbox.ensures.place _ _ _ _ _ takes

pub returns-in-Ok-Ok-End : goal.returns-in-Ok-Ok-End
returns-in-Ok-Ok-End g c ticket begun sends =
    let sends = rw (← c.into_parts-inbox.ensures.line) at sends in
    let takes = rw (c.new-stream.ensures, c.in-Ok-Ok-End.field-0-is, c.in-Ok-Ok-End.field-0-0-is) at c.in-Ok-Ok-End.ensures.takes in
    (_, inr (lacks ticket begun _ _ _ _ sends c.into_parts-inbox.ensures.place _ _ _ _ takes))

pub returns-in-Ok-Err : goal.returns-in-Ok-Err
returns-in-Ok-Err g c ticket begun sends =
    let sends = rw (← c.into_parts-inbox.ensures.line) at sends in
    let takes = rw (c.new-stream.ensures, c.in-Ok-Err.field-0-is) at c.in-Ok-Err.ensures.takes in
    (_, inl (begin_answers ticket begun _ _ _ _ sends c.into_parts-inbox.ensures.place _ _ _ c.take_payload.new.stream _ takes))

pub returns-in-Err : goal.returns-in-Err
returns-in-Err g c ticket begun sends =
    let sends = rw (← c.into_parts-inbox.ensures.line) at sends in
    let takes = rw c.new-stream.ensures at c.in-Err.ensures.takes in
    (_, inl (begin_stops ticket begun _ _ _ _ sends c.into_parts-inbox.ensures.place _ _ _ c.take_payload.new.stream _ takes))
