use Rattle.std.proofs.Common.{◌∙◌, arith}
use Rattle.arrays.proofs.Elements.{element_read}
use Rattle.arrays.proofs.element.U16Element.read.Goals as goal

pub returns : goal.returns
returns c = c.read_u16.ensures ∙ element_read 2 c.args.place c.args.values.now (omega arith)
