-- What a message is on the wire, in the words of the Protocol Buffers encoding: a list of fields,
-- one after the other. No code and no order of reading is in it. Groups (wire types 3 and 4) are
-- left out, and a varint longer than needed is taken modulo 2^64: these two rules are our own.
use Rattle.std.specs.Prelude.{◌≡◌, ℕ, ◌+◌, ◌*◌, ◌%◌, ◌^◌, ◌≤◌, ◌<◌, ◌++◌, List, [], ◌∷◌, length}
use Rattle.std.specs.Int.{w32, w64, from_le_bytes}

-- what a field holds
pub data Content : Type 0 where
  Varint : ℕ → Content
  Fixed64 : ℕ → Content
  Chunk : List ℕ → Content
  Fixed32 : ℕ → Content

-- a field: its number and what it holds
pub record Entry : Type 0 where
  pub number : ℕ
  pub content : Content

-- a number that a field may have
abbrev pub IsFieldNumber : ℕ → Type 0
IsFieldNumber number = (1 ≤ number) × (number ≤ 536870911)

-- each byte but the last is from 128 on: more groups of seven bits follow it
abbrev pub IsGroups : List ℕ → Type 0
IsGroups [] = ⊥
IsGroups (b ∷ []) = b < 128
IsGroups (b ∷ c ∷ bytes) = (128 ≤ b) × IsGroups (c ∷ bytes)

-- the number that the groups say, the least significant first
abbrev pub groups_value : List ℕ → ℕ
groups_value [] = 0
groups_value (b ∷ bytes) = b % 128 + 128 * groups_value bytes

-- the bytes are a varint of this value: at most ten groups, and the value is what they say in 64
-- bits
pub record IsVarint (bytes : List ℕ) (value : ℕ) : Type 0 where
  pub groups : IsGroups bytes
  pub short : length bytes ≤ 10
  pub value_is : value ≡ groups_value bytes % 2 ^ 64

-- the bytes are a length as a varint, and then a chunk of that length
pub record IsChunk (bytes chunk : List ℕ) : Type 0 where
  pub len : List ℕ
  pub len_is : IsVarint len (length chunk)
  pub whole : bytes ≡ len ++ chunk

-- the wire type that tells what a field holds
abbrev pub wire_type : Content → ℕ
wire_type (Varint value) = 0
wire_type (Fixed64 value) = 1
wire_type (Chunk chunk) = 2
wire_type (Fixed32 value) = 5

-- the bytes hold this
abbrev pub Holds : Content → List ℕ → Type 0
Holds (Varint value) bytes = IsVarint bytes value
Holds (Fixed64 value) bytes = (length bytes ≡ 8) × (value ≡ from_le_bytes w64 bytes)
Holds (Chunk chunk) bytes = IsChunk bytes chunk
Holds (Fixed32 value) bytes = (length bytes ≡ 4) × (value ≡ from_le_bytes w32 bytes)

-- the bytes are this field: a tag of its number and its wire type, and then what it holds
pub record IsField (bytes : List ℕ) (entry : Entry) : Type 0 where
  pub number_is : IsFieldNumber entry.number
  pub tag : List ℕ
  pub tag_is : IsVarint tag (8 * entry.number + wire_type entry.content)
  pub body : List ℕ
  pub holds : Holds entry.content body
  pub whole : bytes ≡ tag ++ body

-- the bytes, all of them, are these fields one after the other
abbrev pub IsFields : List ℕ → List Entry → Type 0
IsFields bytes [] = bytes ≡ []
IsFields bytes (entry ∷ entries) =
    (first : List ℕ) × (rest : List ℕ) × (bytes ≡ first ++ rest) × IsField first entry
    × IsFields rest entries

-- a front of the bytes is this field, and the rest follows it
pub record StandsInFront (entry : Entry) (bytes rest : List ℕ) : Type 0 where
  pub front : List ℕ
  pub whole : bytes ≡ front ++ rest
  pub is_field : IsField front entry
