use Rattle.proto_wire.proofs.Written.{gains, spelling_is}
use Rattle.proto_wire.specs.Writing.{field_spelling}
use Rattle.proto_wire.proofs.laws.fields_are_gained.Goals as goal

pub returns : goal.returns
returns c = λ bytes entries entry fields writable. gains bytes (field_spelling entry) entry (spelling_is entry writable) entries fields
