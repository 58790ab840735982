-- The tables of timestamps, times and durations in a schema: what they say, how they are read, and
-- what is written into them.
use Rattle.std.specs.Prelude.{◌≡◌, ℕ, ◌==◌, Bool, true, false, List, [], ◌∷◌, Option, Some, None}
use Rattle.std.specs.Prelude.{codes, length, nat_lt, Result, Ok}
use Rattle.scan_base.specs.declared.fault.Fault.{Fault}
use Rattle.scan_base.specs.declared.fault.Fault.TheVariants.{UnsupportedArrow}
use Rattle.scan_base.specs.Reading.{◌>>=◌, demand}
use Rattle.flatbuf.specs.Layout.{TableAt, HasScalar, HasText}
use Rattle.flatbuf.specs.Place.{scalar_of, text_of}
use Rattle.flatbuf.specs.Block.{Given, Number as Scalar, Offset, text_part}
use Rattle.arrow_types.specs.declared.data_type.NumberType.TheVariants.{Timestamp, Time, Duration}
use Rattle.arrow_types.specs.declared.data_type.TimeUnit.{TimeUnit}
use Rattle.arrow_types.specs.declared.data_type.TimeUnit.TheVariants.{Second, Millisecond}
use Rattle.arrow_types.specs.declared.data_type.TimeUnit.TheVariants.{Microsecond, Nanosecond}
use Rattle.arrow_types.specs.declared.data_type.DataType.{DataType}
use Rattle.arrow_types.specs.declared.data_type.DataType.TheVariants.{Number}
use Rattle.arrow_types.specs.DataType.{bit_width, time_integer}
use Rattle.arrow_schema.specs.Meanings.{meaning_of}

-- ---- Timestamp

-- a TimeUnit: SECOND, MILLISECOND, MICROSECOND and NANOSECOND
abbrev pub unit_number : TimeUnit → ℕ
unit_number Second = 0
unit_number Millisecond = 1
unit_number Microsecond = 2
unit_number Nanosecond = 3

abbrev pub time_units : List (ℕ × TimeUnit)
time_units = (0, Second) ∷ (1, Millisecond) ∷ (2, Microsecond) ∷ (3, Nanosecond) ∷ []

-- whether there is a zone, whatever its name; an empty name is none
abbrev pub is_zone : Option (List ℕ) → Bool
is_zone None = false
is_zone (Some name) = nat_lt 0 (length name)

-- a Timestamp table: its unit, SECOND (0) by default, and a zone or none
pub record SaysTimestamp (table : TableAt) (unit : TimeUnit) (zoned : Bool) : Type 0 where
  pub counted : HasScalar 2 table 0 0 (unit_number unit)
  pub zone : Option (List ℕ)
  pub named : HasText table 1 zone
  pub is : is_zone zone ≡ zoned

-- what a Timestamp table says: its unit, and whether there is a zone
unfoldable pub timestamp_of : TableAt → Result DataType Fault
timestamp_of table = do
  number ← scalar_of 2 table 0 0
  unit ← meaning_of time_units number
  zone ← text_of table 1
  Ok (Number (Timestamp unit (is_zone zone)))

-- what is written into a Timestamp table: a zone is UTC
abbrev pub timestamp_slots : TimeUnit → Bool → List Given
timestamp_slots unit false = Scalar (unit_number unit) ∷ []
timestamp_slots unit true = Scalar (unit_number unit) ∷ Offset (text_part (codes "UTC")) ∷ []

-- ---- Time

-- the bits of a time of a day
abbrev pub time_bits : TimeUnit → ℕ
time_bits unit = bit_width (time_integer unit)

-- a Time table: its unit, MILLISECOND (1) by default, and the bits of that, 32 by default
pub record SaysTime (table : TableAt) (unit : TimeUnit) : Type 0 where
  pub counted : HasScalar 2 table 0 1 (unit_number unit)
  pub width : HasScalar 4 table 1 32 (time_bits unit)

-- what a Time table says: its unit, in the bits of that
unfoldable pub time_of : TableAt → Result DataType Fault
time_of table = do
  number ← scalar_of 2 table 0 1
  unit ← meaning_of time_units number
  bits ← scalar_of 4 table 1 32
  _ ← demand (bits == time_bits unit) UnsupportedArrow
  Ok (Number (Time unit))

-- ---- Duration

-- a Duration table: its unit, MILLISECOND (1) by default
abbrev pub SaysDuration : TableAt → TimeUnit → Type 0
SaysDuration table unit = HasScalar 2 table 0 1 (unit_number unit)

-- what a Duration table says: its unit
unfoldable pub duration_of : TableAt → Result DataType Fault
duration_of table = do
  number ← scalar_of 2 table 0 1
  unit ← meaning_of time_units number
  Ok (Number (Duration unit))
