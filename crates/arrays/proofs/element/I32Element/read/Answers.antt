use Rattle.std.proofs.Common.{◌∙◌, ap, arith, rules}
use Rattle.std.specs.Int.{w32, cast_signed}
use Rattle.std.proofs.lemmas.Int.{to_z-of_z}
use Rattle.arrays.proofs.Elements.{element_read}
use Rattle.arrays.proofs.element.I32Element.read.Goals as goal

pub returns : goal.returns
returns c =
    to_z-of_z w32 c.read_i32.result (search rules) ∙ c.read_i32.ensures ∙ ap (cast_signed w32) (element_read 4 c.args.place c.args.values.now (omega arith))
