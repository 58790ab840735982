-- The values of a dictionary: those of one part after another.
use Rattle.std.specs.Prelude.{◌+◌, ℤ, pos, negsuc, List, ◌++◌, length, Option, None, slice_get}
use Rattle.std.specs.Prelude.{nat_le, Result, Ok}
use Rattle.scan_base.specs.declared.fault.Fault.{Fault}
use Rattle.scan_base.specs.declared.fault.Fault.TheVariants.{LimitReached}
use Rattle.scan_base.specs.declared.value.Value.{Value}
use Rattle.scan_base.specs.Limits.{most_values}
use Rattle.scan_base.specs.Reading.{◌>>=◌, demand}
use Rattle.arrays.specs.Texts.{TextsAt, texts_values}

-- the values with those of one more part after them
unfoldable pub extended_by : List Value → TextsAt → Result (List Value) Fault
extended_by values part =
    demand (nat_le (length values + part.len) most_values) LimitReached
    >>= λ _. Ok (values ++ texts_values part)

-- the value at an index, which a negative one and one past the end do not have
abbrev pub entry_at : List Value → ℤ → Option Value
entry_at values (pos index) = slice_get values index
entry_at values (negsuc index) = None
