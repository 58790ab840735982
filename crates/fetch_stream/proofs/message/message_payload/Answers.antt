use Rattle.std.proofs.Common.{◌≡◌, ◌++◌, length, refl, ap, length-append, arith, rules}
use Rattle.flight_proto.specs.FlightData.{data_head}
use Rattle.fetch_stream.proofs.Sizes.{batch_fits}
use Rattle.fetch_stream.proofs.Streaming.{message_carried}
use Rattle.fetch_stream.proofs.message.message_payload.Goals as goal

pub new-requires-clause-short : goal.new-requires-clause-short
new-requires-clause-short c =
    let header = c.args.message.header.items in
    let body = c.args.message.body.items in
    let short = c.requires.short in
    let head : c.put_flight_data_head.new.out.items ≡ data_head header (length body) = search rules in
    let fits = batch_fits header body (data_head header (length body) ++ body) refl short.header short.body in
    let front : c.len-3.result ≡ length c.put_flight_data_head.new.out.items = search rules in
    let back : c.len-4.result ≡ length body = search rules in
    omega (arith, fits, front, ap length head, back, length-append (data_head header (length body)) body)

pub returns-clause-carries : goal.returns-clause-carries
returns-clause-carries c =
    let header = c.args.message.header.items in
    let body = c.args.message.body.items in
    let whole : c.new.result ≡ data_head header (length body) ++ body = search rules in
    message_carried c.new.result header body whole (search rules) c.requires.short.body
