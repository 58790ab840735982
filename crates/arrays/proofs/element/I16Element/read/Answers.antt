use Rattle.std.proofs.Common.{◌∙◌, ap, arith, rules}
use Rattle.std.specs.Int.{w16, cast_signed}
use Rattle.std.proofs.lemmas.Int.{to_z-of_z}
use Rattle.arrays.proofs.Elements.{element_read}
use Rattle.arrays.proofs.element.I16Element.read.Goals as goal

pub returns : goal.returns
returns c =
    to_z-of_z w16 c.read_i16.result (search rules) ∙ c.read_i16.ensures ∙ ap (cast_signed w16) (element_read 2 c.args.place c.args.values.now (omega arith))
