-- How many bytes fields and messages have.
use Rattle.std.proofs.Common.{◌≤◌, ℕ, zero, suc, ◌+◌, ◌*◌, ◌/◌, ◌%◌, nat_lt, cond, Bool, true, false, if◌then◌else◌, List, [], ◌∷◌, ◌++◌, length, arith, length-append}
use Rattle.flight_proto.specs.Message.{is_set, set_fields, spelled}
use Rattle.proto_wire.specs.Calls.{chunk_entry, varint_entry}
use Rattle.proto_wire.specs.Standard.{Entry}
use Rattle.proto_wire.specs.Writing.{groups_of, varint, field_spelling}

short_groups : (more n : ℕ) → length (groups_of more n) ≤ more + 1
short_groups zero n = omega arith
short_groups (suc more) n = by (nat_lt n 128) (short_groups more (n / 128))
  where
    by : (last : Bool) → length (groups_of more (n / 128)) ≤ more + 1 → length (if last then n ∷ [] else (n % 128 + 128) ∷ groups_of more (n / 128)) ≤ suc more + 1
    by true rest = omega arith
    by false rest = omega (arith, rest)

pub short_varint : (n : ℕ) → length (varint n) ≤ 10
unfolding varint
short_varint n = short_groups 9 n

-- a field of bytes has at most twenty more
pub short_chunk : (number : ℕ) (chunk : List ℕ) → length (field_spelling (chunk_entry number chunk)) ≤ 20 + length chunk
unfolding field_spelling
short_chunk number chunk =
    omega (
      arith,
      short_varint (8 * number + 2),
      short_varint (length chunk),
      length-append (varint (8 * number + 2)) (varint (length chunk) ++ chunk),
      length-append (varint (length chunk)) chunk,
    )

pub short_number : (number value : ℕ) → length (field_spelling (varint_entry number value)) ≤ 20
unfolding field_spelling
short_number number value =
    omega (arith, short_varint (8 * number + 0), short_varint value, length-append (varint (8 * number + 0)) (varint value))

-- what is left out makes a message no longer
pub short_set : (entries : List Entry) → length (spelled (set_fields entries)) ≤ length (spelled entries)
short_set [] = omega arith
short_set (entry ∷ entries) = by (is_set entry.content) (short_set entries)
  where
    by : (there : Bool) → length (spelled (set_fields entries)) ≤ length (spelled entries) → length (spelled (cond there (entry ∷ set_fields entries) (set_fields entries))) ≤ length (spelled (entry ∷ entries))
    by true rest = omega (arith, rest, length-append (field_spelling entry) (spelled entries), length-append (field_spelling entry) (spelled (set_fields entries)))
    by false rest = omega (arith, rest, length-append (field_spelling entry) (spelled entries))
