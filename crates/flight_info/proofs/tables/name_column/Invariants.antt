use Rattle.std.proofs.Common.{take}
use Rattle.flight_info.specs.inside.ListedTables.{HoldTexts, names_listed}
use Rattle.flight_info.proofs.tables.name_column.Given as goal

abbrev pub invariant-loop-place : goal.invariant-loop-place
invariant-loop-place l = HoldTexts l.names.offsets.items l.names.bytes.items (names_listed (take l.place l.catalog))
