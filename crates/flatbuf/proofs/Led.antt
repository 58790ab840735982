-- What the slots of a written table lead to.
use Rattle.std.proofs.Common.{◌≡◌, ℕ, zero, suc, ◌+◌, ◌*◌, ◌/◌, ◌%◌, ◌^◌, ◌<◌, List, [], ◌∷◌, ◌++◌, length, map, Some, None, Ok, refl, arith, ap, ◌∙◌, append-nil, subst}
use Rattle.std.specs.Prelude.{slice_get}
use Rattle.std.proofs.lemmas.List.{length-append, length-map}
use Rattle.std.proofs.lemmas.Str.{is_utf8-from_IsUtf8}
use Rattle.std.proofs.Math.Nat.{div-le_self}
use Rattle.flatbuf.specs.Place.{TableAt, VectorAt, number_at, target_of, field_of, scalar_of, table_of, text_of, structs_of, items_at, vector_of, element_of}
use Rattle.flatbuf.specs.Layout.{Stands}
use Rattle.flatbuf.specs.Block.{Part, Offset, AreWhole, little, numbers, padding, fields, children, items_part, tables_from, tables_part, buffer_of}
use Rattle.flatbuf.specs.Fits.{FitsTables}
use Rattle.flatbuf.specs.WrittenTables.{table_at, LeadsToBlock, ElementIs, ChildReadsBack, TextReadsBack, StructsReadBack, TablesReadBack, BufferReadsBack}
use Rattle.flatbuf.proofs.Standing.{stands_first, stands_then, stands_at, stands_whole, stands_number, stands_low, stands_bytes, length-little, tables_from_whole}
use Rattle.flatbuf.proofs.Written.{FieldsHold, fields_hold, length-numbers, length-fields, stands_head, stands_tail}
use Rattle.flatbuf.proofs.Lengths.{length-tables}

-- the table that a slot leads to
pub led_table : ChildReadsBack
unfolding table_of
led_table t slot part l = rw (l.field, l.target) refl

-- an absent slot has its default
pub absent_scalar : (t : TableAt) (slot width default : ℕ) → field_of t slot ≡ Ok None → scalar_of width t slot default ≡ Ok default
unfolding scalar_of
absent_scalar t slot width default e = rw e refl

-- and leads to no table
pub absent_table : (t : TableAt) (slot : ℕ) → field_of t slot ≡ Ok None → table_of t slot ≡ Ok None
unfolding table_of
absent_table t slot e = rw e refl

-- the count and the items of a block stand 4 and 8 bytes after its first
items_stand : (count : ℕ) (items bytes : List ℕ) (at : ℕ) → Stands (items_part count items).bytes bytes at →
    Stands (little 4 count) bytes (at + 4) × Stands items bytes (at + 8)
unfolding items_part
items_stand count items bytes at s =
    let all = little 4 0 ++ (little 4 count ++ items) in
    let a = length-little 4 0 in
    let b = length-little 4 count in
    let s1 = stands_first all (padding (length all)) bytes at s in
    let s2 = stands_at (little 4 count ++ items) bytes (at + length (little 4 0)) (at + 4) (omega arith) (stands_then (little 4 0) (little 4 count ++ items) bytes at s1) in (
      stands_first (little 4 count) items bytes (at + 4) s2,
      stands_at items bytes (at + 4 + length (little 4 count)) (at + 8) (omega arith) (stands_then (little 4 count) items bytes (at + 4) s2),
    )

-- counted items are read again
items_again : (count width : ℕ) (items bytes : List ℕ) (at : ℕ) → count < 2 ^ 32 → length items ≡ count * width →
    Stands (little 4 count) bytes (at + 4) → Stands items bytes (at + 8) → items_at width bytes (at + 4) ≡ Ok items
unfolding items_at
items_again count width items bytes at few whole s i =
    let n = stands_number 4 count bytes (at + 4) few s in
    let e : at + 8 ≡ at + 4 + 4 = omega arith in
    rw (n, ← whole) (stands_bytes items bytes (at + 4 + 4) (rw e at i))

items_root : (count : ℕ) (items : List ℕ) → (items_part count items).root ≡ 4
unfolding items_part
items_root count items = refl

-- where a slot that leads to counted items leads
led_items : (t : TableAt) (slot count : ℕ) (items : List ℕ) → (l : LeadsToBlock t slot (items_part count items)) → target_of t.bytes l.from ≡ Ok (l.place + 4)
led_items t slot count items l = l.target ∙ ap (λ (n : ℕ). Ok (l.place + n)) (items_root count items)

-- so many structs of a width have so many bytes
structs_count : (width n : ℕ) → 0 < width → n % width ≡ 0 → n ≡ n / width * width
structs_count width n some whole = omega arith

-- the structs that a slot leads to
pub led_structs : StructsReadBack
unfolding structs_of
led_structs t slot width structs fits l =
    let count = length structs / width in
    let s = items_stand count structs t.bytes l.place l.stands in
    let small = fits.small in
    let low = div-le_self (length structs) width in
    let even = l.aligned in (
      rw (l.field, led_items t slot count structs l, items_again count width structs t.bytes l.place (omega arith) (structs_count width (length structs) fits.some fits.whole) s.0 s.1) refl,
      s.1,
      λ (a : t.at % 8 ≡ 0). (let b = even a in omega arith),
    )

-- a byte of zero
byte_zero : little 1 0 ≡ 0 ∷ []
unfolding little
byte_zero = refl

-- the text that a slot leads to
pub led_text : TextReadsBack
unfolding text_of
led_text t slot text good small l =
    let count = length text in
    let s = items_stand count (text ++ (0 ∷ [])) t.bytes l.place l.stands in
    let first = stands_first text (0 ∷ []) t.bytes (l.place + 8) s.1 in
    let closed = stands_then text (0 ∷ []) t.bytes (l.place + 8) s.1 in (
      rw (l.field, led_items t slot count (text ++ (0 ∷ [])) l, items_again count 1 text t.bytes l.place small (omega arith) s.0 first, is_utf8-from_IsUtf8 text good) refl,
      stands_number 1 0 t.bytes (l.place + 8 + count) (omega arith) (rw byte_zero closed),
    )

-- the tables of a vector from an index on
abbrev pub Elements : VectorAt → ℕ → List Part → Type 0
Elements vector index [] = Unit {0}
Elements vector index (part ∷ more) = ElementIs vector index part × Elements vector (suc index) more

element_leads : (bytes : List ℕ) (first count index place : ℕ) (part : Part) → target_of bytes (first + 4 * index) ≡ Ok (place + part.root) →
    element_of (record { bytes = bytes; first = first; count = count }) index ≡ Ok (table_at bytes place part)
unfolding element_of
element_leads bytes first count index place part e = rw e refl

-- fields of offsets that were written lead to the tables
elements_told : (bytes : List ℕ) (first count index next : ℕ) (tables : List Part) → (first % 8 ≡ 0 → next % 8 ≡ 0) → AreWhole (map Offset tables) →
    FieldsHold 4 bytes (first + 4 * index) next (map Offset tables) → Elements (record { bytes = bytes; first = first; count = count }) index tables
elements_told bytes first count index next [] even whole h = tt
elements_told bytes first count index next (part ∷ more) even whole h =
    let e : first + 4 * index + 4 ≡ first + 4 * suc index = omega arith in
    let even2 : first % 8 ≡ 0 → (next + length part.bytes) % 8 ≡ 0 = λ (a : first % 8 ≡ 0). (let b = even a in let c = whole.0.whole in omega arith) in
    let h2 = h.2 in (
      record { place = next; element = element_leads bytes first count index next part h.0; stands = h.1; aligned = even },
      elements_told bytes first count (suc index) (next + length part.bytes) more even2 whole.1 (rw e at h2),
    )

-- the vector that a slot leads to, by where its bytes stand
abbrev pub vector_behind : TableAt → ℕ → List Part → VectorAt
vector_behind t place tables = record { bytes = t.bytes; first = place + 8; count = length tables }

-- the vector of tables that a slot leads to, and each table in turn
pub led_vector : (t : TableAt) (slot : ℕ) (tables : List Part) → FitsTables tables → AreWhole (map Offset tables) → (l : LeadsToBlock t slot (tables_part tables)) →
    (vector_of t slot ≡ Ok (Some (vector_behind t l.place tables))) × Elements (vector_behind t l.place tables) 0 tables
unfolding tables_part tables_from vector_of
led_vector t slot tables fits whole l =
    let bytes = t.bytes in
    let at = l.place in
    let count = length tables in
    let given = map Offset tables in
    let next = tables_from count in
    let fs = fields 4 8 next given in
    let nums = numbers 4 (0 ∷ count ∷ fs) in
    let pad = padding (8 + 4 * count) in
    let c = length-fields 4 8 next given in
    let m : length given ≡ count = length-map tables Offset in
    let w : length nums ≡ 4 * suc (suc (length fs)) = length-numbers 4 (0 ∷ count ∷ fs) in
    let len = length-tables tables in
    let even = tables_from_whole count in
    let short : length (tables_part tables).bytes < 2 ^ 31 = fits in
    let s1 = stands_first nums (pad ++ children given) bytes at l.stands in
    let s2 = stands_tail 4 0 (count ∷ fs) bytes at (at + 4) refl s1 in
    let s3 = stands_tail 4 count fs bytes (at + 4) (at + 8) (omega arith) s2 in
    let s4 = stands_then pad (children given) bytes (at + length nums) (stands_then nums (pad ++ children given) bytes at l.stands) in
    let s5 = stands_at (children given) bytes (at + length nums + length pad) (at + next) (omega arith) s4 in
    let n : number_at 4 bytes (at + 4) ≡ Ok count = stands_number 4 count bytes (at + 4) (omega arith) (stands_head 4 count fs bytes (at + 4) s2) in
    let e : at + 4 + 4 ≡ at + 8 = omega arith in
    let f : at + 8 ≡ at + 8 + 4 * 0 = omega arith in
    let hold : FieldsHold 4 bytes (at + 8) (at + next) given = fields_hold 4 bytes at 8 next given (omega arith) (omega arith) s3 s5 (omega arith) (omega arith) whole (λ n b place h. h) in
    let aligned : (at + 8) % 8 ≡ 0 → (at + next) % 8 ≡ 0 = λ (a : (at + 8) % 8 ≡ 0). omega arith in (
      rw (l.field, l.target, n, e) refl,
      elements_told bytes (at + 8) count 0 (at + next) tables aligned whole (rw f at hold),
    )

-- one of the tables from an index on
element_at : (vector : VectorAt) (from : ℕ) (tables : List Part) → Elements vector from tables → (step index : ℕ) (part : Part) → from + step ≡ index →
    slice_get tables step ≡ Some part → ElementIs vector index part
element_at vector from [] told step index part e is = cc
element_at vector from (table ∷ more) told zero index part e is =
    let f : from ≡ index = omega arith in
    let g : table ≡ part = cc in
    subst (λ (p : Part). ElementIs vector index p) g (subst (λ (n : ℕ). ElementIs vector n table) f told.0)
element_at vector from (table ∷ more) told (suc step) index part e is =
    element_at vector (suc from) more told.1 step index part (omega arith) is

-- the vector of tables that a slot leads to, and each table by its index
pub led_tables : TablesReadBack
led_tables t slot tables fits whole l =
    let led = led_vector t slot tables fits whole l in
    let vector = vector_behind t l.place tables in
    let even = l.aligned in
    let first : t.at % 8 ≡ 0 → (l.place + 8) % 8 ≡ 0 = λ (a : t.at % 8 ≡ 0). (let b = even a in omega arith) in (
      vector,
      record {
        found = led.0;
        same = refl;
        count = refl;
        elements = λ (index : ℕ) (part : Part) (is : slice_get tables index ≡ Some part). element_at vector 0 tables led.1 index index part (omega arith) is;
        aligned = first;
        offsets = λ (a : t.at % 8 ≡ 0) (index : ℕ). (let b = first a in omega arith);
      },
    )

-- the table that a buffer begins with
pub buffer_reads : BufferReadsBack
unfolding buffer_of
buffer_reads part is small =
    let first = little 8 (8 + part.root) in
    let w = length-little 8 (8 + part.root) in
    let inside = is.rooted in
    let even = is.whole in
    let s = stands_whole first part.bytes in
    let n = stands_number 4 (8 + part.root) (first ++ part.bytes) 0 (omega arith) (stands_low 4 (8 + part.root) (first ++ part.bytes) 0 (omega arith) s) in
    let a = length-append first part.bytes in
    let e : 0 + (8 + part.root) ≡ 8 + part.root = omega arith in (
      rw (n, e) refl,
      record { before = first; after = []; whole = simp append-nil; place = w },
      omega arith,
    )
