use Rattle.arrays.proofs.Elements.{byte_read}
use Rattle.arrays.proofs.element.U8Element.read.Goals as goal

pub returns : goal.returns
returns c = byte_read c.args.place c.args.values.now
