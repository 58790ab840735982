use Rattle.std.proofs.Common.{◌≡◌, ◌-◌, map}
use Rattle.std.specs.List.{list_any, range_with_len}
use Rattle.arrays.specs.Column.{slot_of, values_of}
use Rattle.table_versions.specs.Table.{is_long_text}
use Rattle.table_versions.proofs.cells.has_long_slot.Given as goal

abbrev pub invariant-loop-j : goal.invariant-loop-j
invariant-loop-j l =
    list_any is_long_text (values_of l.column) ≡ list_any is_long_text (map (slot_of l.column) (range_with_len l.j (l.column.len - l.j)))
