use Rattle.std.proofs.Common.{◌≡◌, [], None, length, ◌∙◌, arith, rules}
use Rattle.arrow_schema.specs.WrittenHeader.{schema_bytes}
use Rattle.flight_proto.specs.FlightData.{data_bytes}
use Rattle.fetch_stream.proofs.Sizes.{schema_fits}
use Rattle.fetch_stream.proofs.Streaming.{schema_said}
use Rattle.fetch_stream.proofs.message.schema_payload.Goals as goal

pub new-requires-2-clause-short : goal.new-requires-2-clause-short
new-requires-2-clause-short c =
    let schema = c.args.schema.now in
    let whole : c.put_flight_data.new.out.items ≡ data_bytes None (record { data_header = schema_bytes schema; data_body = [] }) = search rules in
    let fits = schema_fits (schema_bytes schema) c.put_flight_data.new.out.items whole (rw c.in_ok-header.ensures.items at c.in_ok-header.ensures.short) in
    let len : c.len-len.result ≡ length c.put_flight_data.new.out.items = search rules in
    omega (arith, fits, len)

pub returns-clause-said : goal.returns-clause-said
returns-clause-said c =
    let schema = c.args.schema.now in
    let whole : c.put_flight_data.new.out.items ≡ data_bytes None (record { data_header = schema_bytes schema; data_body = [] }) = search rules in
    let same : c.new-2.result ≡ c.put_flight_data.new.out.items = search rules in
    schema_said c.new-2.result schema c.requires (same ∙ whole) (rw c.in_ok-header.ensures.items at c.in_ok-header.ensures.short)
