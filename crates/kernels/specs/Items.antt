-- Inside: the codes of the items of IN.
use Rattle.std.specs.Prelude.{◌≡◌, ◌<◌, ◌^◌, ℕ, List}
use Rattle.scan_base.specs.declared.value.Value.{Value}
use Rattle.scan_base.specs.declared.value.Value.TheVariants.{Null, Int}
use Rattle.scan_base.specs.declared.truth.Truth.TheVariants.{Unknown}
use Rattle.scan_base.specs.declared.predicate.Operand.{Operand}
use Rattle.scan_base.specs.Predicate.{any_equal}
use Rattle.scan_base.specs.Truth.{truth_from}
use Rattle.arrow_types.specs.declared.data_type.IntegerType.{IntegerType}
use Rattle.arrow_types.specs.DataType.{bit_width}
use Rattle.arrays.specs.Number.{number_from}
use Rattle.kernels.specs.Codes.{is_among}

-- a number of the type is equal to an item where its code is one of the codes; of a null it is not
-- known
pub record AreCodesOf (integer : IntegerType) (items : List (Operand ℕ))
    (codes : List ℕ) : Type 0 where
  pub numbers : (cell : ℕ → Value) (code : ℕ) → code < 2 ^ bit_width integer →
      any_equal cell (Int (number_from integer code)) items ≡ truth_from (is_among codes code)
  pub nulls : (cell : ℕ → Value) → any_equal cell Null items ≡ Unknown
