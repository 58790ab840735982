use Rattle.std.proofs.Common.{◌≡◌, ◌++◌, length, refl, ap, length-append, arith, rules}
use Rattle.flight_proto.specs.FlightData.{data_head}
use Rattle.ipc_batch.specs.WrittenMessages.{body_of, batch_buffers_written}
use Rattle.fetch_stream.proofs.Sizes.{batch_fits}
use Rattle.fetch_stream.proofs.Streaming.{batch_said}
use Rattle.fetch_stream.proofs.message.batch_payload.Goals as goal

pub new-requires-clause-short : goal.new-requires-clause-short
new-requires-clause-short c =
    let batch = c.args.batch.now in
    let body = body_of (batch_buffers_written batch.columns) in
    let header = c.in_ok-header.header.items in
    let head : c.put_flight_data_head.new.out.items ≡ data_head header (length body) = search rules in
    let fits = batch_fits header body (data_head header (length body) ++ body) refl c.in_ok-header.ensures.short c.requires.short in
    let front : c.len-2.result ≡ length c.put_flight_data_head.new.out.items = search rules in
    let back : c.body_length-body_length.result ≡ length body = c.body_length-body_length.ensures.length in
    omega (arith, fits, front, ap length head, back, length-append (data_head header (length body)) body)

pub returns-clause-said : goal.returns-clause-said
returns-clause-said c =
    let batch = c.args.batch.now in
    let body = body_of (batch_buffers_written batch.columns) in
    let header = c.in_ok-header.header.items in
    let whole : c.new.result ≡ data_head header (length body) ++ body = search rules in
    batch_said c.new.result header body batch whole (search rules) c.requires.short refl c.in_ok-header.ensures.rows
