-- Inside: keys whose long texts have a number, and what is compared of them.
use Rattle.std.specs.Prelude.{◌≡◌, ◌==◌, ◌++◌, ℕ, pos, Bool, List, [], ◌∷◌, IsTrue, map}
use Rattle.std.specs.Prelude.{if◌then◌else◌, Option, Some, None, Result, Ok, Err}
use Rattle.std.specs.declared.alloc.AllocError.{AllocError}
use Rattle.std.specs.List.{flat_map, position_or_len}
use Rattle.std.specs.Hash as fed
use Rattle.std.proofs.Common.{ap}
use Rattle.indexmap.specs.IndexSet.{insert_key}
use Rattle.scan_base.specs.declared.value.Value.{Value}
use Rattle.scan_base.specs.declared.value.Value.TheVariants.{Int}
use Rattle.first_rows.specs.declared.key.RowKey.{RowKey}
use Rattle.first_rows.specs.declared.numbered_keys.NumberedKey.{NumberedKey}
use Rattle.first_rows.specs.Numbers.{long_text}
use Rattle.first_rows.specs.Parts.{part_input, parts_sound, same_parts}
use Rattle.first_rows.specs.RowKeys.{key_of}

-- the row of a key
abbrev pub first_of : NumberedKey → RowKey
first_of key = record {
  number = key.number;
  batch = key.batch;
  columns = key.columns;
  row = key.row;
  there = key.there;
  within = key.within;
}

-- a value without its long text, where it is one
abbrev pub without : Option (List ℕ) → Value → Option Value
without None value = Some value
without (Some text) value = None

-- what is compared of a value whose long text has a number: nothing of such a text
abbrev pub blanked : Value → Option Value
blanked value = without (long_text value) value

-- what is compared of a value next to the number of the long texts
abbrev pub rest : ℕ → Value → Option Value
rest texts value = if texts == 0 then Some value else blanked value

-- what is compared of the values of a key next to the number of its long texts
abbrev pub rest_of : NumberedKey → List (Option Value)
rest_of key = map (rest key.texts) (key_of (first_of key))

-- all that is compared of a key
abbrev pub coded : NumberedKey → List (Option Value)
coded key = Some (Int (pos key.texts)) ∷ rest_of key

-- whether two keys are the same by what is compared of them
abbrev pub same_coded : NumberedKey → NumberedKey → Bool
same_coded a b = same_parts (coded a) (coded b)

-- what a hash takes of a number of texts: of that of none nothing
abbrev pub texts_input : ℕ → List (List ℕ)
texts_input texts = if texts == 0 then [] else fed.u32 texts

-- what a hash takes of a number of texts, and of parts
abbrev pub number_input : ℕ → List (Option Value) → List (List ℕ)
number_input texts parts = texts_input texts ++ flat_map part_input parts

-- what a hash takes of what is compared of a key
abbrev pub input_of : List (Option Value) → List (List ℕ)
input_of (Some (Int (pos texts)) ∷ parts) = number_input texts parts
input_of _ = []

-- what a hash takes of a key
abbrev pub coded_input : NumberedKey → List (List ℕ)
coded_input key = number_input key.texts (rest_of key)

-- a hash takes the same of keys that are the same
pub same_coded_input : (a b : NumberedKey) → IsTrue (same_parts (coded a) (coded b)) →
    coded_input a ≡ coded_input b
same_coded_input a b h = ap input_of (parts_sound (coded a) (coded b) h)

-- a key has its place among others, after all where it is new; where memory is refused they are as
-- they were
abbrev pub Puts : List NumberedKey → NumberedKey → Result ℕ AllocError → List NumberedKey → Type 0
Puts before key (Ok place) after =
    (after ≡ insert_key same_coded before key) × (place ≡ position_or_len (same_coded key) before)
Puts before key (Err _) after = after ≡ before
