use Rattle.std.proofs.Common.{◌≡◌, ◌-◌, All, length}
use Rattle.arrow_types.specs.Schema.{IsField}
use Rattle.std.specs.List.{range_with_len}
use Rattle.scan_base.specs.Lists.{each}
use Rattle.scan_base.proofs.ReadingLaws.{behind}
use Rattle.arrow_schema.specs.Header.{field_at}
use Rattle.arrow_schema.proofs.reading.each_field.Given as goal

abbrev pub invariant-loop-index : goal.invariant-loop-index
invariant-loop-index l =
    (behind l.fields.items (each (field_at l.vector) (range_with_len l.index (l.vector.count - l.index))) ≡ each (field_at l.vector) (range_with_len 0 l.vector.count))
    × (length l.fields.items ≡ l.index) × All IsField l.fields.items
