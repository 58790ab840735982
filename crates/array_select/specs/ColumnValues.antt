-- What a column is built of: values, and none where a slot is to be null.
use Rattle.std.specs.Prelude.{Option, Some, None}
use Rattle.scan_base.specs.declared.value.Value.{Value}
use Rattle.scan_base.specs.declared.value.Value.TheVariants.{Null}

-- the value of a slot: null where there is none
abbrev pub value_or_null : {T : Type 0} → (T → Value) → Option T → Value
value_or_null value None = Null
value_or_null value (Some x) = value x
