-- Inside: packed numbers by their bits: in two's complement said both ways, and what they fit.
use Rattle.std.specs.Prelude.{◌≡◌, ◌<◌, ◌-◌, ◌*◌, ◌^◌, ℕ, ℤ, pos, negsuc, suc, Bool, true, false}
use Rattle.std.specs.Prelude.{if◌then◌else◌, List, FitsSigned, refl}
use Rattle.std.specs.Int.{w8, w16, w32, w64, w128, cast_signed}
use Rattle.std.proofs.Math.Facts.{sfits_to_z}
use Rattle.byteorder.specs.Numbers.{little_from-lt}
use Rattle.arrow_types.specs.declared.data_type.IntegerType.TheVariants.{Int8, Int16, Int32, Int64}
use Rattle.arrays.specs.Number.{AreBytes, element_at, integer_at, signed_from}
use mir.Val.{sel}

same_choice : (b : Bool) (x y : ℤ) → sel b x y ≡ (if b then x else y)
same_choice true x y = refl
same_choice false x y = refl

pub signed8 : (bits : ℕ) → cast_signed w8 bits ≡ signed_from 8 bits
signed8 bits = same_choice _ (pos bits) (negsuc (2 ^ 8 - suc bits))

pub signed16 : (bits : ℕ) → cast_signed w16 bits ≡ signed_from 16 bits
signed16 bits = same_choice _ (pos bits) (negsuc (2 ^ 16 - suc bits))

pub signed32 : (bits : ℕ) → cast_signed w32 bits ≡ signed_from 32 bits
signed32 bits = same_choice _ (pos bits) (negsuc (2 ^ 32 - suc bits))

pub signed64 : (bits : ℕ) → cast_signed w64 bits ≡ signed_from 64 bits
signed64 bits = same_choice _ (pos bits) (negsuc (2 ^ 64 - suc bits))

pub signed128 : (bits : ℕ) → cast_signed w128 bits ≡ signed_from 128 bits
signed128 bits = same_choice _ (pos bits) (negsuc (2 ^ 128 - suc bits))

-- an element has no more bits than its bytes
pub element_small : (width place : ℕ) (values : List ℕ) → AreBytes values →
    element_at width values place < 256 ^ width
unfolding element_at
element_small width place values bytes = little_from-lt (width * place) width values bytes

pub fits8 : (values : List ℕ) (place : ℕ) → AreBytes values →
    FitsSigned w8 (integer_at Int8 values place)
fits8 values place bytes = sfits_to_z (record { fits = element_small 1 place values bytes })

pub fits16 : (values : List ℕ) (place : ℕ) → AreBytes values →
    FitsSigned w16 (integer_at Int16 values place)
fits16 values place bytes = sfits_to_z (record { fits = element_small 2 place values bytes })

pub fits32 : (values : List ℕ) (place : ℕ) → AreBytes values →
    FitsSigned w32 (integer_at Int32 values place)
fits32 values place bytes = sfits_to_z (record { fits = element_small 4 place values bytes })

pub fits64 : (values : List ℕ) (place : ℕ) → AreBytes values →
    FitsSigned w64 (integer_at Int64 values place)
fits64 values place bytes = sfits_to_z (record { fits = element_small 8 place values bytes })
