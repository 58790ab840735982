use Rattle.std.proofs.Common.{◌∙◌, ap, arith, rules}
use Rattle.std.specs.Int.{w128, cast_signed}
use Rattle.std.proofs.lemmas.Int.{to_z-of_z}
use Rattle.arrays.proofs.Elements.{element_read}
use Rattle.arrays.proofs.element.I128Element.read.Goals as goal

pub returns : goal.returns
returns c =
    to_z-of_z w128 c.read_i128.result (search rules) ∙ c.read_i128.ensures ∙ ap (cast_signed w128) (element_read 16 c.args.place c.args.values.now (omega arith))
