use Rattle.std.proofs.Common.{◌∙◌, ap, arith, rules}
use Rattle.std.specs.Int.{w64, cast_signed}
use Rattle.std.proofs.lemmas.Int.{to_z-of_z}
use Rattle.arrays.proofs.Elements.{element_read}
use Rattle.arrays.proofs.element.I64Element.read.Goals as goal

pub returns : goal.returns
returns c =
    to_z-of_z w64 c.read_i64.result (search rules) ∙ c.read_i64.ensures ∙ ap (cast_signed w64) (element_read 8 c.args.place c.args.values.now (omega arith))
