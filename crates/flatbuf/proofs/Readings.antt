-- Each reading finds what the format says.
use Rattle.std.proofs.Common.{◌≡◌, ◌≢◌, ◌≤◌, ◌<◌, ℕ, ◌+◌, ◌-◌, ◌*◌, ◌^◌, ◌⊎◌, inl, inr, List, length, take, drop, slice_index, nat_lt, nat_le, ◌==◌, if◌then◌else◌, Bool, true, false, Option, Some, None, Result, Ok, Err, refl, sym, ap, subst, ◌∙◌, arith, pos, ◌-ℤ◌}
use Rattle.std.proofs.Math.Seq.{take-append_seam}
use Rattle.std.proofs.lemmas.Bool.{cases_lt, le-leb, lt-leb, lt-ltb, le-ltb}
use Rattle.std.proofs.lemmas.Bool.Decides.{eqb_tells}
use Rattle.std.proofs.lemmas.Int.{ints}
use Rattle.std.proofs.lemmas.List.{take-append-drop, length-take-le, length-drop, get_or_past}
use Rattle.std.proofs.lemmas.List.Elements.{All-get_or}
use Rattle.std.proofs.lemmas.Str.{IsUtf8-from_is_utf8, is_utf8-from_IsUtf8}
use Rattle.std.specs.Int.{w32, cast_signed}
use Rattle.std.specs.Str.{IsUtf8, is_utf8}
use Rattle.scan_base.specs.declared.fault.Fault.{Fault}
use Rattle.scan_base.specs.declared.fault.Fault.TheVariants.{BadFlatbuffer}
use Rattle.scan_base.specs.Reading.{◌>>=◌, demand, text_in}
use Rattle.byteorder.specs.Endian.{little_from, little_number}
use Rattle.byteorder.specs.Numbers.{little_from-take, little_from-lt}
use Rattle.flatbuf.specs.Layout.{Stands, IsBytes, HasNumber, HasOffset, TableAt, VectorAt, HasRoot, HasVtable, LeadsFrom, HasField, IsScalar, HasScalar, IsReached, Reaches, IsTable, IsVector, AreItems, IsText, HasTable, HasVector, HasStructs, HasText, HasElement}
use Rattle.flatbuf.specs.Place.{number_at, bytes_at, target_of, root_of, vtable_of, field_of, scalar_at, scalar_of, led_from, through, table_of, vector_of, element_of, items_at, structs_of, text_of}
use Rattle.flatbuf.specs.Readings.{Finds}
use Rattle.flatbuf.proofs.Numbers.{little_from-at}
use Rattle.flatbuf.proofs.Standing.{stands_drop, stands_within}

-- what is read is the one value of which this holds, and BadFlatbuffer where it holds of none
abbrev pub Seen : {A : Type 0} → Result A Fault → (A → Type 0) → Type 0
Seen {A = A} (Ok x) holds = holds x × ((y : A) → holds y → y ≡ x)
Seen {A = A} (Err fault) holds = (fault ≡ BadFlatbuffer) × ((y : A) → ¬ (holds y))

pub seen_finds : {A : Type 0} (read : Result A Fault) (holds : A → Type 0) → Seen read holds → Finds read holds
seen_finds {A = A} (Ok x) holds seen = record {
  value = λ y. (λ e. let same : x ≡ y = cc in subst holds same seen.0, λ h. ap Ok (sym (seen.1 y h)));
  refusal = λ fault. (λ e. absurd (let no : ⊥ = cc in no), λ none. absurd (none.1 x seen.0));
}
seen_finds {A = A} (Err fault) holds seen = record {
  value = λ y. (λ e. absurd (let no : ⊥ = cc in no), λ h. absurd (seen.1 y h));
  refusal = λ other. (λ e. (let same : other ≡ BadFlatbuffer = cc in same, seen.1), λ none. ap Err (seen.0 ∙ sym none.0));
}

-- the same values under other words
pub seen_same : {A : Type 0} (read : Result A Fault) (P Q : A → Type 0) → ((y : A) → P y → Q y) → ((y : A) → Q y → P y) → Seen read P → Seen read Q
seen_same (Ok x) P Q there back seen = (there x seen.0, λ y h. seen.1 y (back y h))
seen_same (Err fault) P Q there back seen = (seen.0, λ y h. seen.1 y (back y h))

-- this is read, and then that
pub seen_then : {A B : Type 0} (read : Result A Fault) (next : A → Result B Fault) (P : A → Type 0) (Q : A → B → Type 0) → Seen read P → ((x : A) → P x → Seen (next x) (Q x)) → Seen (read >>= next) (λ y. (x : A) × P x × Q x y)
seen_then {A = A} {B = B} (Ok x) next P Q seen more =
    seen_same (next x) (Q x) (λ y. (z : A) × P z × Q z y)
    (λ y h. (x, seen.0, h))
    (λ y h. let q : A → Type 0 = λ z. Q z y in subst q (seen.1 h.0 h.1) h.2)
    (more x seen.0)
seen_then (Err fault) next P Q seen more = (seen.0, λ y h. seen.1 h.0 h.1)

-- what lies at a place
stands_part : (bytes : List ℕ) (at count : ℕ) → at + count ≤ length bytes → Stands (take count (drop at bytes)) bytes at
stands_part bytes at count fits = record {
  before = take at bytes;
  after = drop count (drop at bytes);
  whole = rw (take-append-drop count (drop at bytes), take-append-drop at bytes) refl;
  place = length-take-le at bytes (omega arith);
}

part_is : (part bytes : List ℕ) (at : ℕ) → Stands part bytes at → part ≡ take (length part) (drop at bytes)
part_is part bytes at stands = rw (stands_drop part bytes at stands, take-append_seam part stands.after) refl

part_value : (width at : ℕ) (bytes : List ℕ) → little_number width (take width (drop at bytes)) ≡ little_from at width bytes
part_value width at bytes = little_from-take 0 width width (drop at bytes) (omega arith) ∙ little_from-at at width bytes

number_is : (width : ℕ) (bytes : List ℕ) (at n : ℕ) → HasNumber width bytes at n → n ≡ little_from at width bytes
number_is width bytes at n has =
    let is : has.part ≡ take (length has.part) (drop at bytes) = part_is has.part bytes at has.stands in
    let same : has.part ≡ take width (drop at bytes) = rw has.wide at is in
    has.value ∙ ap (little_number width) same ∙ part_value width at bytes

pub seen_number : (width : ℕ) (bytes : List ℕ) (at : ℕ) → Seen (number_at width bytes at) (HasNumber width bytes at)
seen_number width bytes at = elim (cases_lt (length bytes) (at + width)) [
  | inl past ↦ rw (lt-leb (at + width) (length bytes) past) (
    refl,
    λ n has.
        let fits = stands_within has.part bytes at has.stands in
        let wide = has.wide in
        omega arith,
  )
  | inr fits ↦ rw (le-leb (at + width) (length bytes) fits) (
    record {
      part = take width (drop at bytes);
      stands = stands_part bytes at width fits;
      wide = length-take-le width (drop at bytes) (let e = length-drop at bytes in omega arith);
      value = sym (part_value width at bytes);
    },
    λ n has. number_is width bytes at n has,
  )
]

pub seen_bytes : (bytes : List ℕ) (at count : ℕ) → Seen (bytes_at bytes at count) (λ part. Stands part bytes at × (length part ≡ count))
seen_bytes bytes at count = elim (cases_lt (length bytes) (at + count)) [
  | inl past ↦ rw (lt-leb (at + count) (length bytes) past) (
    refl,
    λ part h.
        let fits = stands_within part bytes at h.0 in
        let wide = h.1 in
        omega arith,
  )
  | inr fits ↦ rw (le-leb (at + count) (length bytes) fits) (
    (stands_part bytes at count fits, length-take-le count (drop at bytes) (let e = length-drop at bytes in omega arith)),
    λ part h. rw h.1 at (part_is part bytes at h.0),
  )
]

-- where an offset leads
pub seen_target : (bytes : List ℕ) (at : ℕ) → Seen (target_of bytes at) (HasOffset bytes at)
seen_target bytes at =
    seen_same (target_of bytes at) (λ target. (offset : ℕ) × HasNumber 4 bytes at offset × (target ≡ at + offset)) (HasOffset bytes at)
    (λ target h. record { offset = h.0; stored = h.1; place = h.2 })
    (λ target h. (h.offset, h.stored, h.place))
    (seen_then (number_at 4 bytes at) (λ offset. Ok (at + offset)) (HasNumber 4 bytes at) (λ offset target. target ≡ at + offset)
    (seen_number 4 bytes at) (λ offset h. (refl, λ y e. e)))

-- the items after a count
pub seen_items : (width : ℕ) (bytes : List ℕ) (at : ℕ) → Seen (items_at width bytes at) (AreItems width bytes at)
unfolding items_at
seen_items width bytes at =
    seen_same (items_at width bytes at) (λ items. (count : ℕ) × HasNumber 4 bytes at count × (Stands items bytes (at + 4) × (length items ≡ count * width))) (AreItems width bytes at)
    (λ items h. record { count = h.0; counted = h.1; stand = h.2.0; wide = h.2.1 })
    (λ items h. (h.count, h.counted, (h.stand, h.wide)))
    (seen_then (number_at 4 bytes at) (λ count. bytes_at bytes (at + 4) (count * width)) (HasNumber 4 bytes at)
    (λ count items. Stands items bytes (at + 4) × (length items ≡ count * width))
    (seen_number 4 bytes at) (λ count h. seen_bytes bytes (at + 4) (count * width)))

-- a table that lies where an offset leads
seen_led : (bytes : List ℕ) (at : ℕ) → Seen {A = TableAt} (target_of bytes at >>= λ target. Ok (record { bytes = bytes; at = target })) (λ table. (target : ℕ) × HasOffset bytes at target × (table ≡ record { bytes = bytes; at = target }))
seen_led bytes at =
    seen_then (target_of bytes at) (λ target. Ok (record { bytes = bytes; at = target })) (HasOffset bytes at) (λ target table. table ≡ record { bytes = bytes; at = target })
    (seen_target bytes at) (λ target h. (refl, λ y e. e))

-- the root table
pub seen_root : (bytes : List ℕ) → Seen (root_of bytes) (HasRoot bytes)
seen_root bytes =
    seen_same (root_of bytes) (λ table. (target : ℕ) × HasOffset bytes 0 target × (table ≡ record { bytes = bytes; at = target })) (HasRoot bytes)
    (λ table h. record {
      same = ap (λ (t : TableAt). t.bytes) h.2;
      offset = rw (ap (λ (t : TableAt). t.at) h.2) h.1;
    })
    (λ table h. (table.at, h.offset, ap (λ b. let t : TableAt = record { bytes = b; at = table.at } in t) h.same))
    (seen_led bytes 0)

-- the table of an index
pub seen_element : (vector : VectorAt) (index : ℕ) → Seen (element_of vector index) (HasElement vector index)
unfolding element_of
seen_element vector index =
    let place = vector.first + 4 * index in
    seen_same (element_of vector index) (λ table. (target : ℕ) × HasOffset vector.bytes place target × (table ≡ record { bytes = vector.bytes; at = target })) (HasElement vector index)
    (λ table h. record {
      same = ap (λ (t : TableAt). t.bytes) h.2;
      offset = rw (ap (λ (t : TableAt). t.at) h.2) h.1;
    })
    (λ table h. (table.at, h.offset, ap (λ b. let t : TableAt = record { bytes = b; at = table.at } in t) h.same))
    (seen_led vector.bytes place)

-- each is a byte
pub byte_of : (bytes : List ℕ) → IsBytes bytes → (k : ℕ) → slice_index bytes k < 256
byte_of bytes isbytes k = elim (cases_lt k (length bytes)) [
  | inl inside ↦ All-get_or (λ byte. byte < 256) bytes k 0 inside isbytes
  | inr past ↦ rw (get_or_past bytes k 0 past) (omega arith)
]

-- the number of four bytes is one of 32 bits
number_small : (bytes : List ℕ) (at n : ℕ) → IsBytes bytes → HasNumber 4 bytes at n → n < 2 ^ 32
number_small bytes at n isbytes has =
    rw (number_is 4 bytes at n has) (little_from-lt at 4 bytes (byte_of bytes isbytes))

-- the vtable lies at the table's place minus a signed number
vtable_at : (at back : ℕ) → back < 2 ^ 32 → Seen (if nat_lt back (2 ^ 31) then (demand (nat_le back at) BadFlatbuffer >>= λ _. Ok (at - back)) else Ok (at + (2 ^ 32 - back))) (λ vtable. pos vtable ≡ pos at -ℤ cast_signed w32 back)
vtable_at at back small = elim (cases_lt back (2 ^ 31)) [
  | inl low ↦ rw (lt-ltb back (2 ^ 31) low) (elim (cases_lt at back) [
    | inl past ↦ rw (lt-leb back at past) (refl, λ vtable e. omega (arith, ints))
    | inr fits ↦ rw (le-leb back at fits) (omega (arith, ints), λ vtable e. omega (arith, ints))
  ])
  | inr high ↦ rw (le-ltb back (2 ^ 31) high) (omega (arith, ints), λ vtable e. omega (arith, ints))
]

pub seen_vtable : (table : TableAt) → IsBytes table.bytes → Seen (vtable_of table) (HasVtable table)
unfolding vtable_of
seen_vtable table isbytes =
    seen_same (vtable_of table) (λ vtable. (back : ℕ) × HasNumber 4 table.bytes table.at back × (pos vtable ≡ pos table.at -ℤ cast_signed w32 back)) (HasVtable table)
    (λ vtable h. record { back = h.0; stored = h.1; place = h.2 })
    (λ vtable h. (h.back, h.stored, h.place))
    (seen_then (number_at 4 table.bytes table.at)
    (λ back. (if nat_lt back (2 ^ 31) then (demand (nat_le back table.at) BadFlatbuffer >>= λ _. Ok (table.at - back)) else Ok (table.at + (2 ^ 32 - back))))
    (HasNumber 4 table.bytes table.at) (λ back vtable. pos vtable ≡ pos table.at -ℤ cast_signed w32 back)
    (seen_number 4 table.bytes table.at)
    (λ back h. vtable_at table.at back (number_small table.bytes table.at back isbytes h)))

-- where an entry leads
no_entry : (table : TableAt) (entry : ℕ) → entry ≡ 0 → (place : Option ℕ) → LeadsFrom table entry place → place ≡ None
no_entry table entry e None leads = refl
no_entry table entry e (Some at) leads = absurd (leads.0 e)

some_entry : (table : TableAt) (entry : ℕ) → entry ≢ 0 → (place : Option ℕ) → LeadsFrom table entry place → place ≡ Some (table.at + entry)
some_entry table entry ne None leads = absurd (ne leads)
some_entry table entry ne (Some at) leads = ap Some leads.1

seen_entry : (table : TableAt) (entry : ℕ) → Seen (Ok (if entry == 0 then None else Some (table.at + entry))) (LeadsFrom table entry)
seen_entry table entry = elim (eqb_tells entry 0) [
  | inl h ↦ rw h.0 (h.1, no_entry table entry h.1)
  | inr h ↦ rw h.0 ((h.1, refl), some_entry table entry h.1)
]

-- what a slot's entry says
abbrev IsStored : List ℕ → ℕ → ℕ → ℕ → ℕ → Type 0
IsStored bytes vtable size slot entry =
    ((4 + 2 * slot + 2 ≤ size) × HasNumber 2 bytes (vtable + (4 + 2 * slot)) entry)
    ⊎ ((size < 4 + 2 * slot + 2) × (entry ≡ 0))

seen_slot : (table : TableAt) (slot vtable size : ℕ) → Seen (if nat_lt size (2 * slot + 6) then Ok None else (number_at 2 table.bytes (vtable + (2 * slot + 4)) >>= λ entry. Ok (if entry == 0 then None else Some (table.at + entry)))) (λ place. (entry : ℕ) × IsStored table.bytes vtable size slot entry × LeadsFrom table entry place)
seen_slot table slot vtable size =
    let same : vtable + (2 * slot + 4) ≡ vtable + (4 + 2 * slot) = omega arith in
    elim (cases_lt size (2 * slot + 6)) [
      | inl short ↦ rw (lt-ltb size (2 * slot + 6) short) (
        (0, inr (omega arith, refl), refl),
        λ place h. no_entry table h.0 (elim h.1 [ inl stored ↦ let long = stored.0 in absurd (let no : ⊥ = omega arith in no) | inr none ↦ none.1 ]) place h.2,
      )
      | inr long ↦ rw (le-ltb size (2 * slot + 6) long)
          (seen_same (number_at 2 table.bytes (vtable + (2 * slot + 4)) >>= λ entry. Ok (if entry == 0 then None else Some (table.at + entry)))
          (λ place. (entry : ℕ) × HasNumber 2 table.bytes (vtable + (2 * slot + 4)) entry × LeadsFrom table entry place)
          (λ place. (entry : ℕ) × IsStored table.bytes vtable size slot entry × LeadsFrom table entry place)
          (λ place h. (h.0, inl (omega arith, rw (← same) h.1), h.2))
          (λ place h. (h.0, elim h.1 [ inl stored ↦ rw same stored.1 | inr none ↦ let past = none.0 in absurd (let no : ⊥ = omega arith in no) ], h.2))
          (seen_then (number_at 2 table.bytes (vtable + (2 * slot + 4))) (λ entry. Ok (if entry == 0 then None else Some (table.at + entry)))
          (HasNumber 2 table.bytes (vtable + (2 * slot + 4))) (LeadsFrom table)
          (seen_number 2 table.bytes (vtable + (2 * slot + 4))) (λ entry h. seen_entry table entry)))
    ]

pub seen_field : (table : TableAt) (slot : ℕ) → IsBytes table.bytes → Seen (field_of table slot) (HasField table slot)
unfolding field_of
seen_field table slot isbytes =
    let rest : ℕ → ℕ → Option ℕ → Type 0 = λ vtable size place. (entry : ℕ) × IsStored table.bytes vtable size slot entry × LeadsFrom table entry place in
    let entry : ℕ → ℕ → Result (Option ℕ) Fault = λ vtable size. (if nat_lt size (2 * slot + 6) then Ok None else (number_at 2 table.bytes (vtable + (2 * slot + 4)) >>= λ entry. Ok (if entry == 0 then None else Some (table.at + entry)))) in
    let sized : ℕ → Option ℕ → Type 0 = λ vtable place. (size : ℕ) × HasNumber 2 table.bytes vtable size × rest vtable size place in
    seen_same (field_of table slot) (λ place. (vtable : ℕ) × HasVtable table vtable × sized vtable place) (HasField table slot)
    (λ place h. let s = h.2 in let e = s.2 in
    record { vtable = h.0; entry = e.0; tabled = h.1; stored = record { size = s.0; sized = s.1; stored = e.1 }; leads = e.2 })
    (λ place h. (h.vtable, h.tabled, (h.stored.size, h.stored.sized, (h.entry, h.stored.stored, h.leads))))
    (seen_then (vtable_of table) (λ vtable. (number_at 2 table.bytes vtable >>= entry vtable)) (HasVtable table) sized
    (seen_vtable table isbytes)
    (λ vtable h. seen_then (number_at 2 table.bytes vtable) (entry vtable) (HasNumber 2 table.bytes vtable) (rest vtable)
    (seen_number 2 table.bytes vtable) (λ size k. seen_slot table slot vtable size)))

-- the number of a slot
pub seen_scalar : (width : ℕ) (table : TableAt) (slot default : ℕ) → IsBytes table.bytes → Seen (scalar_of width table slot default) (HasScalar width table slot default)
unfolding scalar_of
seen_scalar width table slot default isbytes =
    seen_same (scalar_of width table slot default) (λ n. (place : Option ℕ) × HasField table slot place × IsScalar width table.bytes default place n) (HasScalar width table slot default)
    (λ n h. record { place = h.0; field = h.1; scalar = h.2 })
    (λ n h. (h.place, h.field, h.scalar))
    (seen_then (field_of table slot) (scalar_at width table.bytes default) (HasField table slot) (IsScalar width table.bytes default)
    (seen_field table slot isbytes)
    (λ place h. elim place as (λ (p : Option ℕ). Seen (scalar_at width table.bytes default p) (IsScalar width table.bytes default p)) [
      | None ↦ (refl, λ y e. e)
      | Some at ↦ seen_number width table.bytes at
    ]))

-- what the offset at a field leads to
seen_led_from : {A : Type 0} (bytes : List ℕ) (read : ℕ → Result A Fault) (holds : ℕ → A → Type 0) → ((target : ℕ) → Seen (read target) (holds target)) → (place : Option ℕ) → Seen (led_from bytes read place) (IsReached holds bytes place)
seen_led_from bytes read holds seen None = (tt, λ found. elim found as (λ f. IsReached holds bytes None f → f ≡ None) [ None ↦ λ h. refl | Some x ↦ λ h. absurd h ])
seen_led_from {A = A} bytes read holds seen (Some at) =
    seen_same (led_from bytes read (Some at)) (λ found. (target : ℕ) × HasOffset bytes at target × ((x : A) × holds target x × (found ≡ Some x))) (IsReached holds bytes (Some at))
    (λ found h. let t = h.2 in rw t.2 (record { target = h.0; offset = h.1; there = t.1 }))
    (λ found. elim found as (λ f. IsReached holds bytes (Some at) f → (target : ℕ) × HasOffset bytes at target × ((x : A) × holds target x × (f ≡ Some x))) [
      | None ↦ λ h. absurd h
      | Some x ↦ λ h. (h.target, h.offset, (x, h.there, refl))
    ])
    (seen_then (target_of bytes at) (λ target. (read target >>= λ found. Ok (Some found))) (HasOffset bytes at) (λ target found. (x : A) × holds target x × (found ≡ Some x))
    (seen_target bytes at)
    (λ target h. seen_then (read target) (λ found. Ok (Some found)) (holds target) (λ x found. found ≡ Some x) (seen target) (λ x k. (refl, λ y e. e))))

-- what a slot leads to
seen_through : {A : Type 0} (table : TableAt) (slot : ℕ) (read : ℕ → Result A Fault) (holds : ℕ → A → Type 0) → IsBytes table.bytes → ((target : ℕ) → Seen (read target) (holds target)) → Seen (through table slot read) (Reaches holds table slot)
seen_through {A = A} table slot read holds isbytes seen =
    seen_same (through table slot read) (λ found. (place : Option ℕ) × HasField table slot place × IsReached holds table.bytes place found) (Reaches holds table slot)
    (λ found h. record { place = h.0; field = h.1; reached = h.2 })
    (λ found h. (h.place, h.field, h.reached))
    (seen_then (field_of table slot) (led_from table.bytes read) (HasField table slot) (IsReached holds table.bytes)
    (seen_field table slot isbytes)
    (λ place h. seen_led_from table.bytes read holds seen place))

pub seen_table : (table : TableAt) (slot : ℕ) → IsBytes table.bytes → Seen (table_of table slot) (HasTable table slot)
unfolding table_of
seen_table table slot isbytes =
    seen_through table slot (λ target. Ok (record { bytes = table.bytes; at = target })) (IsTable table.bytes) isbytes
    (λ target. (record { same = refl; place = refl }, λ y h. ap (λ b. let t : TableAt = record { bytes = b; at = y.at } in t) h.same ∙ ap (λ a. let t : TableAt = record { bytes = table.bytes; at = a } in t) h.place))

pub seen_vector : (table : TableAt) (slot : ℕ) → IsBytes table.bytes → Seen (vector_of table slot) (HasVector table slot)
unfolding vector_of
seen_vector table slot isbytes =
    let make : ℕ → ℕ → VectorAt = λ target count. record { bytes = table.bytes; first = target + 4; count = count } in
    seen_through table slot (λ target. (number_at 4 table.bytes target >>= λ count. Ok (make target count))) (IsVector table.bytes) isbytes
    (λ target. seen_same (number_at 4 table.bytes target >>= λ count. Ok (make target count))
    (λ vector. (count : ℕ) × HasNumber 4 table.bytes target count × (vector ≡ make target count)) (IsVector table.bytes target)
    (λ vector h. rw h.2 (record { same = refl; counted = h.1; first = refl }))
    (λ vector h. (vector.count, h.counted, ap (λ b. let v : VectorAt = record { bytes = b; first = vector.first; count = vector.count } in v) h.same ∙ ap (λ f. let v : VectorAt = record { bytes = table.bytes; first = f; count = vector.count } in v) h.first))
    (seen_then (number_at 4 table.bytes target) (λ count. Ok (make target count)) (HasNumber 4 table.bytes target) (λ count vector. vector ≡ make target count)
    (seen_number 4 table.bytes target) (λ count h. (refl, λ y e. e))))

pub seen_structs : (width : ℕ) (table : TableAt) (slot : ℕ) → IsBytes table.bytes → Seen (structs_of width table slot) (HasStructs width table slot)
unfolding structs_of
seen_structs width table slot isbytes =
    seen_through table slot (items_at width table.bytes) (AreItems width table.bytes) isbytes (seen_items width table.bytes)

-- the text of a part, where it is UTF-8
seen_utf8 : (text : List ℕ) → Seen (text_in text BadFlatbuffer) (λ t. (t ≡ text) × IsUtf8 t)
seen_utf8 text =
    let by : (b : Bool) → is_utf8 text ≡ b → Seen (if b then Ok text else Err BadFlatbuffer) (λ t. (t ≡ text) × IsUtf8 t) =
    λ b. elim b as (λ (b : Bool). is_utf8 text ≡ b → Seen (if b then Ok text else Err BadFlatbuffer) (λ t. (t ≡ text) × IsUtf8 t)) [
      | true ↦ λ e. ((refl, IsUtf8-from_is_utf8 text e), λ y h. h.0)
      | false ↦ λ e. (refl, λ t h. let yes : is_utf8 text ≡ true = is_utf8-from_IsUtf8 text (subst IsUtf8 h.0 h.1) in let no : ⊥ = cc in no)
    ] in
    by (is_utf8 text) refl

pub seen_text : (table : TableAt) (slot : ℕ) → IsBytes table.bytes → Seen (text_of table slot) (HasText table slot)
unfolding text_of
seen_text table slot isbytes =
    let read : List ℕ → Result (List ℕ) Fault = λ text. (text_in text BadFlatbuffer) in
    seen_through table slot (λ target. (items_at 1 table.bytes target >>= read)) (IsText table.bytes) isbytes
    (λ target. seen_same (items_at 1 table.bytes target >>= read)
    (λ text. (items : List ℕ) × AreItems 1 table.bytes target items × ((text ≡ items) × IsUtf8 text)) (IsText table.bytes target)
    (λ text h. record { items = rw h.2.0 h.1; utf8 = h.2.1 })
    (λ text h. (text, h.items, (refl, h.utf8)))
    (seen_then (items_at 1 table.bytes target) read (AreItems 1 table.bytes target) (λ items text. (text ≡ items) × IsUtf8 text)
    (seen_items 1 table.bytes target) (λ items h. seen_utf8 items)))
