-- Whether the code's statistics are those of a column.
use Rattle.std.specs.Prelude.{◌≡◌, ◌<◌, Option, Some, None}
use Rattle.scan_base.specs.declared.value.Value.{Value}
use Rattle.scan_base.specs.declared.value.Value.TheVariants.{Bool as Flag, Int}
use Rattle.arrays.specs.Column.{ColumnAt, slot_of, values_of}
use Rattle.batch_stats.specs.declared.stats.Stats.{Stats}
use Rattle.batch_stats.specs.declared.stats.Stats.TheVariants.{Nulls, Flags, Numbers, Texts}
use Rattle.batch_stats.specs.Stats.{ends_of}

-- the least and the greatest value by statistics: of texts those in two slots of the column
abbrev pub ends_held : ColumnAt → Stats → Option (Value × Value)
ends_held column Nulls = None
ends_held column (Flags least greatest) = Some (Flag least, Flag greatest)
ends_held column (Numbers least greatest) = Some (Int least, Int greatest)
ends_held column (Texts least greatest) = Some (slot_of column least, slot_of column greatest)

-- the slots of texts are slots of the column
abbrev pub AreSlots : ColumnAt → Stats → Type 0
AreSlots column (Texts least greatest) = (least < column.len) × (greatest < column.len)
AreSlots column _ = Unit {0}

-- the statistics are those of the column
pub record IsStatsOf (column : ColumnAt) (stats : Stats) : Type 0 where
  pub ends : ends_held column stats ≡ ends_of (values_of column)
  pub slots : AreSlots column stats
