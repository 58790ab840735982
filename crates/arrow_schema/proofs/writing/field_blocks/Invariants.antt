use Rattle.std.proofs.Common.{◌≡◌, map, take}
use Rattle.arrow_schema.specs.WrittenHeader.{field_part}
use Rattle.arrow_schema.proofs.writing.field_blocks.Given as goal

abbrev pub invariant-loop-field : goal.invariant-loop-field
invariant-loop-field l = l.blocks.items ≡ map field_part (take l.field-index l.fields)
