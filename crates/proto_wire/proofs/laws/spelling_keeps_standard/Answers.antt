use Rattle.proto_wire.proofs.Written.{spellings_are}
use Rattle.proto_wire.proofs.laws.spelling_keeps_standard.Goals as goal

pub returns : goal.returns
returns c = spellings_are
