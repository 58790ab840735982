use Rattle.std.proofs.Common.{◌≡◌, take}
use Rattle.arrow_types.proofs.schema.Schema.copy.Given as goal

abbrev pub invariant-loop-field : goal.invariant-loop-field
invariant-loop-field l = l.fields ≡ take l.field-index l.self.fields
