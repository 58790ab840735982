-- Statistics that are kept without their column.
use Rattle.std.specs.Prelude.{◌≡◌, Bool, true, false, Some, None}
use Rattle.scan_base.specs.declared.value.Value.{Value}
use Rattle.scan_base.specs.declared.value.Value.TheVariants.{Bool as Flag, Int, Text}
use Rattle.batch_stats.specs.declared.owned_stats.OwnedStats.{OwnedStats}
use Rattle.batch_stats.specs.declared.owned_stats.OwnedStats.TheVariants.{Nulls, Flags, Numbers}
use Rattle.batch_stats.specs.declared.owned_stats.OwnedStats.TheVariants.{Texts}
use Rattle.batch_stats.specs.Beginnings.{BeginSo}
use Rattle.batch_stats.specs.Stats.{StatsAt}

-- the statistics are the ones that are kept: of texts their first bytes are
abbrev pub AreKept : OwnedStats → StatsAt → Type 0
AreKept (Nulls nulls) stats = stats ≡ record { ends = None; nulls = nulls }
AreKept (Flags least greatest nulls) stats =
    stats ≡ record { ends = Some (Flag least, Flag greatest); nulls = nulls }
AreKept (Numbers least greatest nulls) stats =
    stats ≡ record { ends = Some (Int least, Int greatest); nulls = nulls }
AreKept (Texts least_is_whole greatest_is_whole least greatest nulls) stats =
    BeginSo (least.bytes, least_is_whole) (greatest.bytes, greatest_is_whole) nulls stats

-- whether two values are truth values, numbers or texts, as the ends of a column's values are
abbrev pub are_alike : Value → Value → Bool
are_alike (Flag _) (Flag _) = true
are_alike (Int _) (Int _) = true
are_alike (Text _) (Text _) = true
are_alike _ _ = false

-- no statistics are kept of these ends: there are two that are not alike
abbrev pub AreUnlike : StatsAt → Type 0
AreUnlike stats = (least greatest : Value) ×
    (stats.ends ≡ Some (least, greatest)) × (are_alike least greatest ≡ false)
