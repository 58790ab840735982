use Rattle.std.proofs.Common.{false, refl, arith}
use Rattle.fetch_stream.proofs.Going.{gives_schema}
use Rattle.fetch_stream.proofs.message.said_schema.Goals as goal

pub returns : goal.returns
returns c =
    let says = c.in_ok-schema_payload.ensures in
    λ rows. gives_schema c.args.schema.now false rows 0 c.in_ok-schema_payload.field-0 refl (omega arith) says.said says.fits
