-- Inside: slots that are gathered at places.
use Rattle.std.specs.Prelude.{◌≡◌, ◌≤◌, ◌<◌, ◌*◌, ◌+◌, ℕ, Bool, List, length, map, get_or, Option}
use Rattle.scan_base.specs.declared.value.Value.{Value}
use Rattle.scan_base.specs.declared.value.Value.TheVariants.{Text}
use Rattle.arrow_types.specs.declared.data_type.DataType.{DataType}
use Rattle.arrays.specs.declared.layout.Layout.{Layout}
use Rattle.arrays.specs.Number.{element_at}
use Rattle.arrays.specs.Validity.{is_valid, IsLong}
use Rattle.arrays.specs.Texts.{TextsAt, text_at}
use Rattle.arrays.specs.declared.slots.Values.{Values}
use Rattle.arrays.specs.Layout.{layout_count, layout_slot, layout_validity}
use Rattle.arrays.specs.Slots.{layout_of, AreSlots}
use Rattle.arrays.specs.TypedLayouts.{IsOfType}
use Rattle.array_select.specs.Selection.{AreRising}

-- places that rise, each of which, counted from `first` on, is one of `len` slots
pub record AreAmong (first : ℕ) (places : List ℕ) (len : ℕ) : Type 0 where
  pub few : first + length places ≤ len
  pub rising : AreRising places
  pub each : (k : ℕ) → k < length places → first + get_or places k 0 < len

-- `packed` has the elements of `values` at the first `count` of some places, which are counted from
-- `first` on
pub record HasElementsAt (width : ℕ) (packed values : List ℕ) (first : ℕ) (places : List ℕ)
    (count : ℕ) : Type 0 where
  pub long : length packed ≡ width * count
  pub each : (k : ℕ) → k < count →
      element_at width packed k ≡ element_at width values (first + get_or places k 0)

-- of the slots at places those are valid that were
pub record AreValidAt (gathered validity : Option (List Bool)) (first : ℕ)
    (places : List ℕ) : Type 0 where
  pub long : IsLong gathered (length places)
  pub each : (k : ℕ) → k < length places →
      is_valid gathered k ≡ is_valid validity (first + get_or places k 0)

-- the texts of the slots at places, those of null slots too
abbrev pub texts_at : TextsAt → ℕ → List ℕ → List Value
texts_at cells first places = map (λ place. Text (text_at cells (first + place))) places

-- a layout has the slots of another at places, and is of its type
pub record AreGathered (gathered layout : Layout) (first : ℕ) (places : List ℕ) : Type 0 where
  pub count : layout_count gathered ≡ length places
  pub slots : (k : ℕ) → k < length places →
      layout_slot gathered k ≡ layout_slot layout (first + get_or places k 0)
  pub typed : (data_type : DataType) → IsOfType data_type layout → IsOfType data_type gathered

-- values are those of the slots of a layout at places, whichever of these are valid
abbrev pub AreValuesAt : Values → Layout → ℕ → List ℕ → Type 0
AreValuesAt values layout first places =
    (validity : Option (List Bool)) → AreValidAt validity (layout_validity layout) first places →
    AreSlots validity (length places) values
    × AreGathered (layout_of validity (length places) values) layout first places
