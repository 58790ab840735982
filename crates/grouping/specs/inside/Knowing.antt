-- Inside: keys that are known by a number.
use Rattle.std.specs.Prelude.{◌≡◌, ◌≢◌, ◌≤◌, ◌<◌, ℕ, All, List, [], ◌∷◌, length, map, get_or}
use Rattle.scan_base.specs.declared.value.Value.{Value}
use Rattle.indexmap.specs.IndexSet.{insert_key}
use Rattle.group_slots.specs.declared.slots.Entries.{Entries}
use Rattle.group_slots.specs.declared.slots.IntegerSlots.{IntegerSlots}
use Rattle.group_slots.specs.Slots.{HaveRoom, entry_cell, slot_cell}
use Rattle.group_slots.specs.TaggedValues.{value_tagged}
use Rattle.first_rows.specs.declared.key.RowKey.{RowKey}
use Rattle.grouping.specs.declared.known_keys.KnownKey.{KnownKey}
use Rattle.grouping.specs.declared.table.ChosenRows.{ChosenRows}
use Rattle.arrays.specs.Batch.{BatchAt, row_of}
use Rattle.grouping.specs.FoundKeys.{key_in, place_in}
use Rattle.first_rows.specs.RowKeys.{key_of, same_first}
use Rattle.grouping.specs.inside.Placing.{IsFinding}

-- the key of each row of the batch is one value
pub record AreTagged (count : ℕ) (value : ℕ → Value) (keys : List ℕ)
    (batch : BatchAt) : Type 0 where
  pub many : batch.rows ≤ count
  pub values : (row : ℕ) → row < batch.rows →
      key_in keys (row_of batch.columns row) ≡ value row ∷ []

-- of no key
abbrev pub nothing : KnownKey
nothing = record { key = 0; kind = 0; group = 0 }

-- so many entries say nothing
pub record AreNothing (count : ℕ) (entries : List KnownKey) : Type 0 where
  pub long : length entries ≡ count
  pub each : (k : ℕ) → k < count → get_or entries k nothing ≡ nothing

-- an entry says nothing, or names the place of its key
pub record IsKnown (meaning : ℕ → ℕ → Value) (found : List (List Value))
    (entry : KnownKey) : Type 0 where
  pub place : entry.kind ≢ 0 → entry.group ≡ place_in found (meaning entry.kind entry.key ∷ [])
  pub there : entry.kind ≢ 0 → entry.group < length found

-- each entry does
abbrev pub AreKnown : (ℕ → ℕ → Value) → List (List Value) → List KnownKey → Type 0
AreKnown meaning found entries = All (IsKnown meaning found) entries

-- whatever entries say of some keys, they say of later keys
abbrev pub StayKnown : List (List Value) → List (List Value) → Type 0
StayKnown before after = (entries : List KnownKey) → AreKnown value_tagged before entries →
    AreKnown value_tagged after entries

-- a row opens no group, and has this one, wherever what the entries say is true
abbrev pub IsKnownGroup : (ℕ → ℕ → Value) → List KnownKey → RowKey → ℕ → Type 0
IsKnownGroup meaning entries first group = (firsts : List RowKey) →
    AreKnown meaning (map key_of firsts) entries → (firsts ≡ insert_key same_first firsts first)
    × (group ≡ place_in (map key_of firsts) (key_of first))

-- the groups of more rows are found with no further key, wherever what the entries say is true
abbrev pub GoOn : (ℕ → ℕ → Value) → List KnownKey → ChosenRows → List ℕ → List ℕ → Type 0
GoOn meaning entries chosen groups after =
    (before firsts : List RowKey) → AreKnown meaning (map key_of firsts) entries → IsFinding chosen
    before (length groups) firsts groups → IsFinding chosen before (length after) firsts after

-- the key of each row of the batch is one of these numbers
pub record AreKeys (slots : IntegerSlots) (keys : List ℕ) (batch : BatchAt) : Type 0 where
  pub room : HaveRoom slots batch.rows
  pub cells : (row : ℕ) → key_in keys (row_of batch.columns row) ≡ slot_cell slots row ∷ []

-- the key of each row of the batch is one of these entries of a dictionary
pub record AreEntryKeys (entries : Entries) (keys : List ℕ) (batch : BatchAt) : Type 0 where
  pub room : HaveRoom entries.slots batch.rows
  pub cells : (row : ℕ) → key_in keys (row_of batch.columns row) ≡ entry_cell entries row ∷ []
