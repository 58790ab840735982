-- Indices, read again over a dictionary in which they lead to the same.
use Rattle.std.proofs.Common.{◌≡◌, ℕ, ◌+◌, ◌<◌, Bool, true, false, not, ◌||◌, List, Option, Some, None, refl, sym, ap, ◌∙◌}
use Rattle.std.specs.Prelude.{is_some, unwrap_or}
use Rattle.scan_base.specs.declared.value.Value.{Value}
use Rattle.scan_base.specs.declared.value.Value.TheVariants.{Null}
use Rattle.scan_base.specs.Value.{is_null}
use Rattle.arrays.specs.declared.layout.Layout.TheVariants as layout
use Rattle.arrays.specs.Number.{byte_width, number_from}
use Rattle.arrays.specs.Validity.{where_valid}
use Rattle.arrays.specs.Dictionary.{entry_at}
use Rattle.arrays.specs.Indices.{IndicesAt, entry_of, index_stands}
use Rattle.arrays.specs.Column.{ColumnAt, slot_of}
use Rattle.arrays.specs.WrittenSlots.{elements}
use Rattle.array_buffers.specs.ColumnBuffers.{LeadsAlike}
use Rattle.array_buffers.proofs.ElementsAgain.{element_again}
use Rattle.array_buffers.proofs.BitsAgain.{validity_again, valid_again, valid_value}

abbrev pub of_indices : IndicesAt → ℕ → ℕ → ColumnAt
of_indices cells first len = record { layout = layout.Indices cells; first = first; len = len }

-- the indices of a column as they are read
abbrev pub indices_read : List Value → IndicesAt → ℕ → ℕ → IndicesAt
indices_read dictionary cells first len = record {
  index = cells.index;
  validity = validity_again (of_indices cells first len);
  values = elements (byte_width cells.index) cells.values first len;
  dictionary = dictionary;
  len = len;
}

-- what leads to a value that is not null leads somewhere
leads_on : (found : Option Value) → is_null (unwrap_or found Null) ≡ false → is_some found ≡ true
leads_on (Some value) some = refl
leads_on None some = absurd (let no : ⊥ = cc in no)

-- a slot that is not null has what its index leads to
pub led_value : (cells : IndicesAt) (place : ℕ) → is_null (where_valid cells.validity (λ (at : ℕ). unwrap_or (entry_of cells at) Null) place) ≡ false →
    where_valid cells.validity (λ (at : ℕ). unwrap_or (entry_of cells at) Null) place ≡ unwrap_or (entry_of cells place) Null
led_value cells place some = valid_value cells.validity (λ (at : ℕ). unwrap_or (entry_of cells at) Null) place some

-- so that it leads somewhere
has_entry : (cells : IndicesAt) (place : ℕ) → is_null (where_valid cells.validity (λ (at : ℕ). unwrap_or (entry_of cells at) Null) place) ≡ false → is_some (entry_of cells place) ≡ true
has_entry cells place some = leads_on (entry_of cells place) (ap is_null (sym (led_value cells place some)) ∙ some)

-- where a slot is not null, its index leads to the same again
pub entry_again : (dictionary : List Value) (cells : IndicesAt) (first len : ℕ) → LeadsAlike dictionary cells (of_indices cells first len) →
    (j : ℕ) → j < len → is_null (slot_of (of_indices cells first len) j) ≡ false → entry_of (indices_read dictionary cells first len) j ≡ entry_of cells (first + j)
entry_again dictionary cells first len alike j low some =
    ap (λ (n : ℕ). entry_at dictionary (number_from cells.index n)) (element_again (byte_width cells.index) cells.values first len j low) ∙ alike j low some

-- each index stands again
pub index_again : (dictionary : List Value) (cells : IndicesAt) (first len : ℕ) → LeadsAlike dictionary cells (of_indices cells first len) →
    (j : ℕ) → j < len → index_stands (indices_read dictionary cells first len) j ≡ true
index_again dictionary cells first len alike j low =
    rw (valid_again (of_indices cells first len) j low)
    (by (is_null (slot_of (of_indices cells first len) j)) (λ some. ap is_some (entry_again dictionary cells first len alike j low some) ∙ has_entry cells (first + j) some) refl)
  where
    by : (null : Bool) → (is_null (slot_of (of_indices cells first len) j) ≡ false → is_some (entry_of (indices_read dictionary cells first len) j) ≡ true) →
        is_null (slot_of (of_indices cells first len) j) ≡ null → (not (not null) || is_some (entry_of (indices_read dictionary cells first len) j)) ≡ true
    by true there e = refl
    by false there e = there e
