-- The numbers that a cell holds fit it, and the texts of a dictionary are its values.
use Rattle.std.proofs.Common.{◌≡◌, ◌≤ℤ◌, ℕ, ℤ, pos, negsuc, List, Option, Some, None, true, IsTrue, sym, subst, arith}
use Rattle.std.proofs.Math.Facts.{leb_yes}
use Rattle.std.proofs.lemmas.Option.{same_Some}
use Rattle.jiff_core.proofs.SignedLemmas.{signed_arith}
use Rattle.arrow_types.specs.declared.data_type.IntegerType.TheVariants.{Int8, Int16, Int32, Int64, UInt8, UInt16, UInt32, UInt64}
use Rattle.arrow_types.specs.declared.data_type.Cell.{Cell}
use Rattle.arrow_types.specs.declared.data_type.Cell.TheVariants.{Integer, Wide}
use Rattle.std.specs.Prelude.{IfSome, option_map}
use Rattle.std.specs.Str.{is_utf8}
use Rattle.scan_base.specs.Value.{value_of}
use Rattle.scan_base.specs.declared.value.Value.TheVariants.{Text}
use Rattle.scan_base.specs.declared.value.ValueRef.{ValueRef}
use Rattle.arrow_types.specs.declared.data_type.DataType.TheVariants as type
use Rattle.arrow_types.specs.declared.data_type.DictionaryEncoding.{DictionaryEncoding}
use Rattle.arrays.specs.TypedLayouts.{FitsCell, IsValueOf}
use Rattle.number_words.specs.WholeNumbers.{greatest_in, holds, least_in}
use Rattle.number_words.proofs.Parts.{from_to-parts}

-- a number between the least and the greatest of a cell fits it
between : (cell : Cell) (number : ℤ) → least_in cell ≤ℤ number → number ≤ℤ greatest_in cell → FitsCell cell number
between (Integer Int8) (pos n) low high = record { sfits = omega (arith, leb_yes high.le) }
between (Integer Int16) (pos n) low high = record { sfits = omega (arith, leb_yes high.le) }
between (Integer Int32) (pos n) low high = record { sfits = omega (arith, leb_yes high.le) }
between (Integer Int64) (pos n) low high = record { sfits = omega (arith, leb_yes high.le) }
between Wide (pos n) low high = record { sfits = omega (arith, leb_yes high.le) }
between (Integer Int8) (negsuc n) low high = record { sfits = omega (arith, leb_yes low.le) }
between (Integer Int16) (negsuc n) low high = record { sfits = omega (arith, leb_yes low.le) }
between (Integer Int32) (negsuc n) low high = record { sfits = omega (arith, leb_yes low.le) }
between (Integer Int64) (negsuc n) low high = record { sfits = omega (arith, leb_yes low.le) }
between Wide (negsuc n) low high = record { sfits = omega (arith, leb_yes low.le) }
between (Integer UInt8) number low high = (low, omega (arith, signed_arith, high))
between (Integer UInt16) number low high = (low, omega (arith, signed_arith, high))
between (Integer UInt32) number low high = (low, omega (arith, signed_arith, high))
between (Integer UInt64) number low high = (low, omega (arith, signed_arith, high))

pub held_fits : (cell : Cell) (number : ℤ) → IsTrue (holds cell number) → FitsCell cell number
held_fits cell number held = let parts = from_to-parts (least_in cell) (greatest_in cell) number held in between cell number parts.0 parts.1

-- a text is a value of a dictionary of texts
pub led_text : (encoding : DictionaryEncoding) (found : Option ValueRef) (text : List ℕ) → option_map value_of found ≡ Some (Text text) → is_utf8 text ≡ true →
    IfSome found (λ value. IsValueOf (type.Dictionary encoding) (value_of value))
led_text encoding None text e utf8 = tt
led_text encoding (Some value) text e utf8 = subst (IsValueOf (type.Dictionary encoding)) (sym (same_Some (value_of value) (Text text) e)) utf8
