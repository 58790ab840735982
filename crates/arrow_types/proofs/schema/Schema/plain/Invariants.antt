use Rattle.std.proofs.Common.{◌≡◌, map, take}
use Rattle.arrow_types.specs.Answer.{plain_field}
use Rattle.arrow_types.proofs.schema.Schema.plain.Given as goal

abbrev pub invariant-loop-field : goal.invariant-loop-field
invariant-loop-field l = l.fields ≡ map plain_field (take l.field-index l.self.fields)
