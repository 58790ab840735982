-- What the code's ranges are as statistics.
use Rattle.std.specs.Prelude.{Some}
use Rattle.scan_base.specs.declared.value.Value.{Value}
use Rattle.batch_skipping.specs.declared.class_range.ClassRange.{ClassRange}
use Rattle.batch_stats.specs.Stats.{StatsAt}

-- the statistics of values between these two, and so many nulls; `value` says what a key of the
-- range is
abbrev pub stats_between : {K : Type 0} → (K → Value) → ClassRange K → StatsAt
stats_between value range =
    record { ends = Some (value range.least, value range.greatest); nulls = range.nulls }
