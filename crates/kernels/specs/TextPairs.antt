-- Inside: columns of texts that are compared with each other, by the codes of dictionaries.
use Rattle.std.specs.Prelude.{◌≡◌, ◌<◌, ◌+◌, ◌*◌, ℕ, List, length, get_or, Option, Some, None}
use Rattle.scan_base.specs.declared.comparison.Comparison.{Comparison}
use Rattle.scan_base.specs.declared.truth.Truth.{Truth}
use Rattle.scan_base.specs.declared.truth.Truth.TheVariants.{Unknown}
use Rattle.scan_base.specs.declared.value.Value.{Value}
use Rattle.scan_base.specs.declared.value.Value.TheVariants.{Null}
use Rattle.scan_base.specs.Comparison.{compared}
use Rattle.arrays.specs.Indices.{IndicesAt}
use Rattle.kernels.specs.declared.code_membership.PackedIntegers.{PackedIntegers}
use Rattle.kernels.specs.Entries.{unless_known}

-- slots of these packed indices into a dictionary
abbrev pub indices_into : List Value → PackedIntegers → IndicesAt
indices_into values indices =
    record {
      index = indices.integer;
      validity = indices.validity.now;
      values = indices.values.now;
      dictionary = values;
      len = indices.count;
    }

-- the value of a code, and null without one
abbrev pub value_of_code : List Value → Option ℕ → Value
value_of_code values None = Null
value_of_code values (Some code) = get_or values code Null

-- two values have codes, and this is the place of the pair of them
pub record IsPairPlace (lefts rights : List Value) (left right : Value) (place : ℕ) : Type 0 where
  pub code : ℕ
  pub other : ℕ
  pub code_within : code < length lefts
  pub other_within : other < length rights
  pub place_is : place ≡ code * length rights + other
  pub left_is : left ≡ get_or lefts code Null
  pub right_is : right ≡ get_or rights other Null

-- of two values that have codes this is the place; without one nothing is known of them
abbrev pub IsPlaceIfAny : List Value → List Value → Value → Value → Option ℕ → Type 0
IsPlaceIfAny lefts rights left right None =
    (comparison : Comparison) → compared comparison left right ≡ Unknown
IsPlaceIfAny lefts rights left right (Some place) = IsPairPlace lefts rights left right place

-- there is a truth for each pair of codes, and where it is known it is that of the comparison of
-- their values
pub record ArePairTruths (comparison : Comparison) (lefts rights : List Value)
    (truths : List Truth) : Type 0 where
  pub long : length truths ≡ length lefts * length rights
  pub stand : (left right : Value) (place : ℕ) → IsPairPlace lefts rights left right place →
      unless_known (compared comparison left right) (get_or truths place Unknown)
      ≡ compared comparison left right
