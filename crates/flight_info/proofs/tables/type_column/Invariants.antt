use Rattle.std.proofs.Common.{take}
use Rattle.flight_info.specs.inside.ListedTables.{HoldTexts, types_listed}
use Rattle.flight_info.proofs.tables.type_column.Given as goal

abbrev pub invariant-loop-place : goal.invariant-loop-place
invariant-loop-place l = HoldTexts l.types.offsets.items l.types.bytes.items (types_listed (take l._place l.catalog))
