use Rattle.proto_wire.proofs.Lists.{keeps_standard, reads_on}
use Rattle.proto_wire.proofs.fields.Fields.next.Goals as goal

pub returns-clause-standard : goal.returns-clause-standard
returns-clause-standard c = keeps_standard _ _ _ c.take_front.ensures

pub returns-clause-whole : goal.returns-clause-whole
returns-clause-whole c = reads_on _ _ _ c.take_front.ensures
