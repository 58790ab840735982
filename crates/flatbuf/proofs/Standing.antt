-- A part that stands in the bytes at a place, and what is read there.
use Rattle.std.proofs.Common.{◌≡◌, ℕ, ◌+◌, ◌-◌, ◌*◌, ◌%◌, ◌^◌, ◌≤◌, ◌<◌, List, [], ◌++◌, length, take, drop, Ok, refl, arith, sym, ap, ◌∙◌, append_assoc, subst, replicate}
use Rattle.std.proofs.lemmas.List.{length-append, length-replicate, take-append-drop}
use Rattle.std.proofs.lemmas.Bool.{le-leb}
use Rattle.std.proofs.Math.Seq.{drop-append_seam, take-append_seam}
use Rattle.byteorder.specs.Endian.{little_from}
use Rattle.byteorder.specs.Numbers.{little_number-reads_back, length-bytes_low_first}
use Rattle.byteorder.proofs.Bytes.{take-bytes_low_first}
use Rattle.std.specs.Int.{to_le_bytes, w64}
use Rattle.flatbuf.specs.Place.{number_at, bytes_at, target_of}
use Rattle.flatbuf.specs.Layout.{Stands}
use Rattle.flatbuf.specs.Block.{little, padding, padded, tables_from}
use Rattle.flatbuf.proofs.Numbers.{little_from-at}

pub stands_first : (a b bytes : List ℕ) (at : ℕ) → Stands (a ++ b) bytes at → Stands a bytes at
stands_first a b bytes at l = record { before = l.before; after = b ++ l.after; whole = l.whole ∙ simp append_assoc; place = l.place }

pub stands_then : (a b bytes : List ℕ) (at : ℕ) → Stands (a ++ b) bytes at → Stands b bytes (at + length a)
stands_then a b bytes at l = record {
  before = l.before ++ a;
  after = l.after;
  whole = l.whole ∙ simp append_assoc;
  place = length-append l.before a ∙ ap (λ (n : ℕ). n + length a) l.place;
}

-- the same place, spelled in another way
pub stands_at : (part bytes : List ℕ) (at place : ℕ) → at ≡ place → Stands part bytes at → Stands part bytes place
stands_at part bytes at place e l = subst (λ (n : ℕ). Stands part bytes n) e l

pub stands_whole : (part after : List ℕ) → Stands part (part ++ after) 0
stands_whole part after = record { before = []; after = after; whole = refl; place = refl }

-- what is left of the bytes from the place on
pub stands_drop : (part bytes : List ℕ) (at : ℕ) → (l : Stands part bytes at) → drop at bytes ≡ part ++ l.after
stands_drop part bytes at l = rw (l.whole, ← l.place) (drop-append_seam l.before (part ++ l.after))

pub stands_within : (part bytes : List ℕ) (at : ℕ) → Stands part bytes at → at + length part ≤ length bytes
stands_within part bytes at l =
    let e : length bytes ≡ length l.before + (length part + length l.after) = ap length l.whole ∙ length-append l.before (part ++ l.after) ∙ ap (λ (n : ℕ). length l.before + n) (length-append part l.after) in
    let p = l.place in
    omega arith

pub length-little : (width n : ℕ) → length (little width n) ≡ width
unfolding little
length-little width n = length-bytes_low_first 0 width n

-- the number that was written is read
pub stands_number : (width n : ℕ) (bytes : List ℕ) (at : ℕ) → n < 256 ^ width → Stands (little width n) bytes at → number_at width bytes at ≡ Ok n
unfolding little
stands_number width n bytes at small l =
    let within = stands_within (little width n) bytes at l in
    let len = length-little width n in
    let fits : at + width ≤ length bytes = omega arith in
    let e : little_from at width bytes ≡ n = sym (little_from-at at width bytes) ∙ ap (little_from 0 width) (stands_drop (little width n) bytes at l) ∙ little_number-reads_back width n l.after small in
    rw (le-leb (at + width) (length bytes) fits, e) refl

-- the low bytes of a number
pub stands_low : (width n : ℕ) (bytes : List ℕ) (at : ℕ) → width ≤ 8 → Stands (little 8 n) bytes at → Stands (little width n) bytes at
unfolding little
stands_low width n bytes at le l =
    let e : little 8 n ≡ little width n ++ drop width (little 8 n) = sym (take-append-drop width (little 8 n)) ∙ ap (λ (x : List ℕ). x ++ drop width (little 8 n)) (take-bytes_low_first 0 8 width n le) in
    stands_first (little width n) (drop width (little 8 n)) bytes at (subst (λ (x : List ℕ). Stands x bytes at) e l)

-- the bytes of a part
pub stands_bytes : (part bytes : List ℕ) (at : ℕ) → Stands part bytes at → bytes_at bytes at (length part) ≡ Ok part
stands_bytes part bytes at l =
    rw (le-leb (at + length part) (length bytes) (stands_within part bytes at l), stands_drop part bytes at l, take-append_seam part l.after) refl

-- what an offset leads to
pub stands_target : (offset : ℕ) (bytes : List ℕ) (at : ℕ) → offset < 2 ^ 32 → Stands (little 4 offset) bytes at → target_of bytes at ≡ Ok (at + offset)
stands_target offset bytes at small l = rw (stands_number 4 offset bytes at small l) refl

-- the low bytes of a number's eight
pub take_little : (width n : ℕ) → width ≤ 8 → take width (to_le_bytes w64 n) ≡ little width n
unfolding little
take_little width n le = take-bytes_low_first 0 8 width n le

pub length_padding : (n : ℕ) → length (padding n) ≡ (8 - n % 8) % 8
unfolding padding
length_padding n = length-replicate ((8 - n % 8) % 8) 0

-- where the tables of a vector begin, as it is computed
pub tables_from_is : (count : ℕ) → tables_from count ≡ 8 + 4 * count + (8 - (8 + 4 * count) % 8) % 8
unfolding tables_from
tables_from_is count = ap (λ (n : ℕ). 8 + 4 * count + n) (length_padding (8 + 4 * count))

-- padded bytes are a multiple of 8
pub length_padded : (bytes : List ℕ) → length (padded bytes) % 8 ≡ 0
unfolding padding
length_padded bytes =
    let a = length-append bytes (replicate ((8 - length bytes % 8) % 8) 0) in
    let b = length-replicate {A = ℕ} ((8 - length bytes % 8) % 8) 0 in
    omega arith

-- the tables of a vector begin at a multiple of 8
pub tables_from_whole : (count : ℕ) → tables_from count % 8 ≡ 0
tables_from_whole count = let e = tables_from_is count in omega arith
