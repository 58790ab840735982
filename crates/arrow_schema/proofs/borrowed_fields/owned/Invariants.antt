use Rattle.std.proofs.Common.{◌≡◌, take}
use Rattle.arrow_schema.proofs.borrowed_fields.owned.Given as goal

abbrev pub invariant-loop-field : goal.invariant-loop-field
invariant-loop-field l = l.copy ≡ take l.field-index l.fields
