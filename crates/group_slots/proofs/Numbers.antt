-- Numbers of at most 64 bits.
use Rattle.std.proofs.Common.{◌≡◌, ℕ, ◌<◌, ℤ, length, get_or, subst, arith, FitsSigned}
use Rattle.std.specs.Int.{w64}
use Rattle.std.proofs.lemmas.Int.{ints}
use Rattle.std.proofs.lemmas.List.{length-map}
use Rattle.std.proofs.lemmas.List.FromFn.{get_or-map-range_with_len, length-range_with_len}
use Rattle.std.proofs.lemmas.List.Elements.{All-get_or}
use Rattle.std.specs.List.{range_with_len}
use Rattle.arrow_types.specs.declared.data_type.IntegerType.{IntegerType}
use Rattle.arrow_types.specs.declared.data_type.IntegerType.TheVariants as integer
use Rattle.arrow_types.specs.declared.data_type.DataType.TheVariants.{Number}
use Rattle.arrow_types.specs.declared.data_type.NumberType.TheVariants.{Integer}
use Rattle.scan_base.specs.declared.value.Value.{Value}
use Rattle.scan_base.specs.declared.value.Value.TheVariants.{Null, Int, Text, Bool as Flag}
use Rattle.arrays.specs.Column.{ColumnAt, IsColumn, slot_of, values_of}
use Rattle.arrays.specs.TypedLayouts.{IsInteger, IsValueOf, ValuesAreOfTheirType}
use Rattle.group_slots.specs.Counting.{IsIntegers, IsShort}

signed : (z : ℤ) → FitsSigned w64 z → IsShort z
signed z fits = record { low = omega (arith, ints); high = omega (arith, ints) }

pub integer_short : (kind : IntegerType) (z : ℤ) → IsInteger kind z → IsShort z
integer_short integer.Int8 z fits = record { low = omega (arith, ints); high = omega (arith, ints) }
integer_short integer.Int16 z fits = record { low = omega (arith, ints); high = omega (arith, ints) }
integer_short integer.Int32 z fits = record { low = omega (arith, ints); high = omega (arith, ints) }
integer_short integer.Int64 z fits = signed z fits
integer_short integer.UInt8 z fits = record { low = omega (arith, ints, fits.0, fits.1); high = omega (arith, ints, fits.0, fits.1) }
integer_short integer.UInt16 z fits = record { low = omega (arith, ints, fits.0, fits.1); high = omega (arith, ints, fits.0, fits.1) }
integer_short integer.UInt32 z fits = record { low = omega (arith, ints, fits.0, fits.1); high = omega (arith, ints, fits.0, fits.1) }
integer_short integer.UInt64 z fits = record { low = omega (arith, ints, fits.0, fits.1); high = omega (arith, ints, fits.0, fits.1) }

-- a slot of whole numbers is null, or a short number
abbrev pub IsShortOrNull : Value → Type 0
IsShortOrNull Null = Unit {0}
IsShortOrNull (Int number) = IsShort number
IsShortOrNull (Flag flag) = ⊥
IsShortOrNull (Text text) = ⊥

of_value : (kind : IntegerType) (value : Value) → IsValueOf (Number (Integer kind)) value → IsShortOrNull value
of_value kind Null is = tt
of_value kind (Int number) is = integer_short kind number is
of_value kind (Flag flag) is = absurd is
of_value kind (Text text) is = absurd is

pub slot_short : ValuesAreOfTheirType → (column : ColumnAt) → IsColumn column → IsIntegers column.layout → (j : ℕ) → j < column.len →
    IsShortOrNull (slot_of column j)
slot_short law column is integers j there =
    let all = law (Number (Integer integers.0)) column is integers.1 in
    let at : get_or (values_of column) j Null ≡ slot_of column j =
    get_or-map-range_with_len (slot_of column) 0 column.len j j Null there (omega arith) in
    let within : j < length (values_of column) =
    omega (arith, there, length-map (range_with_len 0 column.len) (slot_of column), length-range_with_len 0 column.len) in
    subst IsShortOrNull at (of_value integers.0 (get_or (values_of column) j Null)
    (All-get_or (IsValueOf (Number (Integer integers.0))) (values_of column) j Null within all))
