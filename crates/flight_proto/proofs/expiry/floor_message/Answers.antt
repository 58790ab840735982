use Rattle.std.proofs.Common.{refl}
use Rattle.proto_wire.specs.Writing.{field_spelling, varint}
use Rattle.flight_proto.proofs.expiry.floor_message.Goals as goal

pub returns : goal.returns
unfolding field_spelling varint
returns c = rw c.to_be_bytes.ensures refl
