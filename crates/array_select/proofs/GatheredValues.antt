-- The values of slots that were gathered at places, whichever of these are valid.
use Rattle.std.proofs.Common.{◌≡◌, ℕ, ◌+◌, Bool, false, List, length, map, get_or, Option, refl, ap, ◌∙◌, arith}
use Rattle.std.proofs.lemmas.List.{length-map}
use Rattle.arrow_types.specs.declared.data_type.IntegerType.{IntegerType}
use Rattle.arrays.specs.declared.slots.Values.TheVariants as kind
use Rattle.arrays.specs.declared.layout.Layout.TheVariants as layout
use Rattle.arrays.specs.Number.{byte_width, AreBytes}
use Rattle.arrays.specs.Integers.{IntegersAt}
use Rattle.arrays.specs.Decimals.{DecimalsAt}
use Rattle.arrays.specs.Bools.{BoolsAt}
use Rattle.arrays.specs.Indices.{IndicesAt, AreIndices}
use Rattle.scan_base.specs.declared.value.Value.{Value}
use Rattle.array_select.specs.inside.GatheredSlots.{AreAmong, HasElementsAt, AreValidAt, AreValuesAt, AreGathered}
use Rattle.array_select.proofs.Gathered.{integers_gathered, decimals_gathered, bools_gathered, indices_stand, indices_gathered}

pub integers_at : (cells : IntegersAt) (integer : IntegerType) (values packed read_values : List ℕ) (first : ℕ) (places : List ℕ) →
    integer ≡ cells.integer → values ≡ packed → read_values ≡ cells.values → AreBytes values → HasElementsAt (byte_width integer) packed read_values first places (length places) →
    AreValuesAt (kind.Integers integer values) (layout.Integers cells) first places
integers_at cells integer values packed read_values first places same_integer made same_values bytes has = λ validity valid. (
  record { stand = record { validity = valid.long; values = omega (arith, has.long, ap length made); bytes = bytes }; count = refl },
  integers_gathered (record { integer = integer; validity = validity; values = values; len = length places }) cells integer validity cells.validity values packed read_values first places
      refl same_integer refl made same_values valid has,
)

pub decimals_at : (cells : DecimalsAt) (values packed read_values : List ℕ) (first : ℕ) (places : List ℕ) →
    values ≡ packed → read_values ≡ cells.values → AreBytes values → HasElementsAt 16 packed read_values first places (length places) →
    AreValuesAt (kind.Decimals values) (layout.Decimals cells) first places
decimals_at cells values packed read_values first places made same_values bytes has = λ validity valid. (
  record { stand = record { validity = valid.long; values = omega (arith, has.long, ap length made); bytes = bytes }; count = refl },
  decimals_gathered (record { validity = validity; values = values; len = length places }) cells validity cells.validity values packed read_values first places
      refl refl made same_values valid has,
)

pub bools_at : (cells : BoolsAt) (values read_values : List Bool) (first : ℕ) (places : List ℕ) →
    read_values ≡ cells.values → values ≡ map (λ place. get_or read_values (first + place) false) places →
    AreValuesAt (kind.Bools values) (layout.Bools cells) first places
bools_at cells values read_values first places same_values picked = λ validity valid.
    let long : length values ≡ length places = ap length picked ∙ length-map places (λ place. get_or read_values (first + place) false) in (
      record { stand = rw long valid.long; count = long },
      bools_gathered (record { validity = validity; values = values }) cells validity cells.validity values read_values first places refl refl same_values valid picked,
    )

pub indices_at : (cells : IndicesAt) (index : IntegerType) (validity : Option (List Bool)) (values packed read_values : List ℕ) (dictionary : List Value) (first : ℕ) (places : List ℕ) →
    AreIndices cells → AreAmong first places cells.len → index ≡ cells.index → values ≡ packed → read_values ≡ cells.values → dictionary ≡ cells.dictionary →
    AreValidAt validity cells.validity first places → HasElementsAt (byte_width index) packed read_values first places (length places) →
    let gathered : IndicesAt = record { index = index; validity = validity; values = values; dictionary = dictionary; len = length places } in
    AreIndices gathered × AreGathered (layout.Indices gathered) (layout.Indices cells) first places
indices_at cells index validity values packed read_values dictionary first places are among same_index made same_values same_dictionary valid has =
    rw (same_index, same_dictionary) (
      indices_stand cells cells.index validity cells.validity values packed read_values first places are among refl refl made same_values valid (rw same_index at has),
      indices_gathered (record { index = cells.index; validity = validity; values = values; dictionary = cells.dictionary; len = length places }) cells cells.index validity cells.validity values packed read_values first places
          refl refl refl made same_values valid (rw same_index at has),
    )
