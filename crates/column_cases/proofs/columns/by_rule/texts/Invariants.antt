use Rattle.std.proofs.Common.{◌≡◌, ◌<◌, ◌^◌, length, map}
use Rattle.scan_base.specs.declared.value.Value.TheVariants.{Text}
use Rattle.arrays.specs.WrittenSlots.{texts_joined}
use Rattle.array_select.specs.ColumnValues.{value_or_null}
use Rattle.column_cases.proofs.columns.by_rule.texts.Given as goal

abbrev pub invariant-loop-place : goal.invariant-loop-place
invariant-loop-place l = record {
  low : l.total < 2 ^ 31;
  long : length (texts_joined (map (value_or_null (λ text. Text text.now)) l.values.items)) ≡ l.total;
}
