-- Slots of indices into a dictionary.
use Rattle.std.specs.Prelude.{◌≡◌, ◌≤◌, ◌<◌, ℕ, ◌*◌, ◌||◌, not, Bool, true, List, length, Option}
use Rattle.std.specs.Prelude.{is_some, nat_le, All, Result, Ok}
use Rattle.std.specs.List.{list_all, range_with_len}
use Rattle.arrow_types.specs.declared.data_type.IntegerType.{IntegerType}
use Rattle.scan_base.specs.declared.fault.Fault.{Fault}
use Rattle.scan_base.specs.declared.fault.Fault.TheVariants.{BadBatch}
use Rattle.scan_base.specs.declared.value.Value.{Value}
use Rattle.scan_base.specs.Reading.{◌>>=◌, demand}
use Rattle.arrays.specs.Number.{byte_width, integer_at}
use Rattle.arrays.specs.Validity.{is_valid, validity_of, IsLong}
use Rattle.scan_base.specs.Value.{IsTextOrNull}
use Rattle.arrays.specs.Dictionary.{entry_at}

-- packed indices of one type, which of them are valid, and the values of the dictionary into which
-- they lead
pub record IndicesAt : Type 0 where
  pub index : IntegerType
  pub validity : Option (List Bool)
  pub values : List ℕ
  pub dictionary : List Value
  pub len : ℕ

-- what the dictionary has at the index of a slot
abbrev pub entry_of : IndicesAt → ℕ → Option Value
entry_of cells place = entry_at cells.dictionary (integer_at cells.index cells.values place)

-- a valid slot's index lies in the dictionary
abbrev pub index_stands : IndicesAt → ℕ → Bool
index_stands cells place = not (is_valid cells.validity place) || is_some (entry_of cells place)

-- the slots of these buffers, which have room for them, and whose indices stand
unfoldable pub indices_of : IntegerType → Option (List ℕ) → List ℕ → List Value → ℕ →
    Result IndicesAt Fault
indices_of index validity values dictionary len = do
  bits ← validity_of validity len
  _ ← demand (nat_le (byte_width index * len) (length values)) BadBatch
  let cells : IndicesAt =
      record { index = index; validity = bits; values = values; dictionary = dictionary; len = len }
  _ ← demand (list_all (index_stands cells) (range_with_len 0 len)) BadBatch
  Ok cells

-- the buffers have room for the slots, and each index stands; the dictionary has texts and nulls
pub record AreIndices (cells : IndicesAt) : Type 0 where
  pub validity : IsLong cells.validity cells.len
  pub values : byte_width cells.index * cells.len ≤ length cells.values
  pub indices : (place : ℕ) → place < cells.len → index_stands cells place ≡ true
  pub texts : All IsTextOrNull cells.dictionary
