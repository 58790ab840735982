-- Which of some texts a value is, and how many bytes they have.
use Rattle.std.specs.Prelude.{◌≡◌, ℕ, List, Option, Some, None, length, map, slice_get}
use Rattle.std.specs.List.{AllZip}
use Rattle.scan_base.specs.declared.value.Value.{Value}
use Rattle.scan_base.specs.declared.value.Value.TheVariants.{Null, Text}
use Rattle.arrays.specs.WrittenSlots.{texts_joined}
pub use Rattle.arrays.specs.Firsts.{text_in, with_text, firsts_behind, firsts}

-- a place among texts leads to a value: none to null, and one to the text that stands there
abbrev pub Leads : List (List ℕ) → Option ℕ → Value → Type 0
Leads texts None value = value ≡ Null
Leads texts (Some place) value =
    (text : List ℕ) × (slice_get texts place ≡ Some text) × (value ≡ Text text)

-- the places lead to the values, one by one
abbrev pub AreLed : List (List ℕ) → List (Option ℕ) → List Value → Type 0
AreLed texts places values = AllZip (Leads texts) places values

-- how many bytes texts have
abbrev pub bytes_in : List (List ℕ) → ℕ
bytes_in texts = length (texts_joined (map Text texts))
