-- The fields of a list of bytes, read from its front, or the fault where there is none.
use Rattle.std.specs.Prelude.{ℕ, zero, suc, ◌+◌, ◌*◌, ◌/◌, ◌%◌, ◌^◌, ◌==◌, ◌&&◌, Bool, List, []}
use Rattle.std.specs.Prelude.{◌∷◌, length, take, drop, Result, Ok, Err, nat_lt, nat_le}
use Rattle.std.specs.Prelude.{if◌then◌else◌}
use Rattle.std.specs.Int.{w32, w64, from_le_bytes}
use Rattle.scan_base.specs.declared.fault.Fault.{Fault}
use Rattle.scan_base.specs.declared.fault.Fault.TheVariants.{BadProto}
use Rattle.scan_base.specs.Reading.{◌>>=◌, demand}
use Rattle.proto_wire.specs.Standard.{Content, Varint, Fixed64, Chunk, Fixed32, Entry}

-- the number in the groups at the front, whose last byte is among the first `places`, and what
-- follows
abbrev pub groups_within : ℕ → List ℕ → Result (ℕ × List ℕ) Fault
groups_within zero bytes = Err BadProto
groups_within (suc places) [] = Err BadProto
groups_within (suc places) (b ∷ bytes) =
    if nat_lt b 128 then Ok (b, bytes)
    else (groups_within places bytes >>= λ high. Ok (b % 128 + 128 * high.0, high.1))

-- the varint at the front, of at most ten bytes, and what follows it
unfoldable pub varint_at : List ℕ → Result (ℕ × List ℕ) Fault
varint_at bytes = groups_within 10 bytes >>= λ groups. Ok (groups.0 % 2 ^ 64, groups.1)

-- so many bytes at the front, and what follows them
abbrev pub front_bytes : ℕ → List ℕ → Result (List ℕ × List ℕ) Fault
front_bytes count bytes =
    if nat_le count (length bytes) then Ok (take count bytes, drop count bytes) else Err BadProto

-- what a field holds, made of what is read, and what follows it
abbrev pub content_by : {A : Type 0} → (A → Content) → Result (A × List ℕ) Fault →
    Result (Content × List ℕ) Fault
content_by make read = read >>= λ found. Ok (make found.0, found.1)

-- what a field of this wire type holds, at the front, and what follows it
unfoldable pub payload_at : ℕ → List ℕ → Result (Content × List ℕ) Fault
payload_at wire bytes =
    if wire == 0 then content_by Varint (varint_at bytes)
    else (if wire == 1
    then content_by (λ fixed. Fixed64 (from_le_bytes w64 fixed)) (front_bytes 8 bytes)
    else (if wire == 2 then (varint_at bytes >>= λ len. content_by Chunk (front_bytes len.0 len.1))
    else (if wire == 5
    then content_by (λ fixed. Fixed32 (from_le_bytes w32 fixed)) (front_bytes 4 bytes)
    else Err BadProto)))

-- a field may have this number
abbrev pub is_field_number : ℕ → Bool
is_field_number number = nat_le 1 number && nat_le number 536870911

-- the field at the front, and what follows it
unfoldable pub field_at : List ℕ → Result (Entry × List ℕ) Fault
field_at bytes = do
  tag ← varint_at bytes
  _ ← demand (is_field_number (tag.0 / 8)) BadProto
  payload ← payload_at (tag.0 % 8) tag.1
  Ok (record { number = tag.0 / 8; content = payload.0 }, payload.1)

-- the fields that the bytes are, where there are at most so many
unfoldable pub fields_within : ℕ → List ℕ → Result (List Entry) Fault
fields_within most [] = Ok []
fields_within zero (b ∷ bytes) = Err BadProto
fields_within (suc most) (b ∷ bytes) = do
  first ← field_at (b ∷ bytes)
  others ← fields_within most first.1
  Ok (first.0 ∷ others)

-- the fields that the bytes, all of them, are: each field has a byte, so there are no more than
-- bytes
unfoldable pub fields_of : List ℕ → Result (List Entry) Fault
fields_of bytes = fields_within (length bytes) bytes
