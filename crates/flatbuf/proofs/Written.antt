-- What is read of a written table.
use Rattle.std.proofs.Common.{◌≡◌, ℕ, zero, suc, ◌+◌, ◌-◌, ◌*◌, ◌%◌, ◌^◌, ◌≤◌, ◌<◌, List, [], ◌∷◌, ◌++◌, length, Some, None, Ok, refl, arith, ap, ◌∙◌, subst}
use Rattle.std.proofs.lemmas.List.{length-append}
use Rattle.std.proofs.lemmas.Bool.{le-leb, lt-ltb, le-ltb}
use Rattle.std.proofs.Math.Dec.{eqb-suc-zero}
use Rattle.flatbuf.specs.Place.{TableAt, number_at, target_of, vtable_of, field_of, scalar_of}
use Rattle.flatbuf.specs.Layout.{Stands}
use Rattle.flatbuf.specs.Block.{Given, Absent, Number, Offset, given_at, AreWhole, little, numbers, padding, entries, fields, children, vtable, table_part}
use Rattle.flatbuf.specs.Fits.{FitsTable}
use Rattle.flatbuf.specs.WrittenTables.{table_at, LeadsToBlock, SlotReads, TableReadsBack, VtableReadsBack, TableIsAligned}
use Rattle.flatbuf.proofs.Standing.{stands_first, stands_then, stands_at, stands_number, stands_low, stands_target, length-little, length_padded}

pub length-numbers : (width : ℕ) (ns : List ℕ) → length (numbers width ns) ≡ width * length ns
length-numbers width [] = omega arith
length-numbers width (n ∷ ns) =
    let ih = length-numbers width ns in
    let e = length-append (little width n) (numbers width ns) in
    let f = length-little width n in
    omega arith

pub length-fields : (width place next : ℕ) (slots : List Given) → length (fields width place next slots) ≡ length slots
length-fields width place next [] = refl
length-fields width place next (Absent ∷ more) = ap suc (length-fields width (place + width) next more)
length-fields width place next (Number n ∷ more) = ap suc (length-fields width (place + width) next more)
length-fields width place next (Offset part ∷ more) = ap suc (length-fields width (place + width) (next + length part.bytes) more)

pub length-entries : (place : ℕ) (slots : List Given) → length (entries place slots) ≡ length slots
length-entries place [] = refl
length-entries place (Absent ∷ more) = ap suc (length-entries (place + 8) more)
length-entries place (Number n ∷ more) = ap suc (length-entries (place + 8) more)
length-entries place (Offset part ∷ more) = ap suc (length-entries (place + 8) more)

-- the first of the numbers, and the others
pub stands_head : (width n : ℕ) (ns bytes : List ℕ) (at : ℕ) → Stands (numbers width (n ∷ ns)) bytes at → Stands (little width n) bytes at
stands_head width n ns bytes at s = stands_first (little width n) (numbers width ns) bytes at s

pub stands_tail : (width n : ℕ) (ns bytes : List ℕ) (at place : ℕ) → at + width ≡ place → Stands (numbers width (n ∷ ns)) bytes at → Stands (numbers width ns) bytes place
stands_tail width n ns bytes at place e s =
    let f = length-little width n in
    stands_at (numbers width ns) bytes (at + length (little width n)) place (omega arith) (stands_then (little width n) (numbers width ns) bytes at s)

-- the fields from a place on, each of `width` bytes, hold what was given, and what they lead to stands from `next` on
abbrev pub FieldsHold : ℕ → List ℕ → ℕ → ℕ → List Given → Type 0
FieldsHold width bytes at next [] = Unit {0}
FieldsHold width bytes at next (Absent ∷ more) = FieldsHold width bytes (at + width) next more
FieldsHold width bytes at next (Number n ∷ more) = Stands (little width n) bytes at × FieldsHold width bytes (at + width) next more
FieldsHold width bytes at next (Offset part ∷ more) =
    (target_of bytes at ≡ Ok (next + part.root)) × Stands part.bytes bytes next × FieldsHold width bytes (at + width) (next + length part.bytes) more

-- fields that were written hold what was given
pub fields_hold : (width : ℕ) (bytes : List ℕ) (base place next : ℕ) (slots : List Given) → 4 ≤ width → width ≤ 8 →
    Stands (numbers width (fields width place next slots)) bytes (base + place) → Stands (children slots) bytes (base + next) →
    place + width * length slots ≤ next → next + length (children slots) < 2 ^ 32 → AreWhole slots →
    ((n : ℕ) (b : List ℕ) (at : ℕ) → Stands (little width n) b at → Stands (little 4 n) b at) →
    FieldsHold width bytes (base + place) (base + next) slots
fields_hold width bytes base place next [] low high f p room small whole narrow = tt
fields_hold width bytes base place next (Absent ∷ more) low high f p room small whole narrow =
    let e : base + (place + width) ≡ base + place + width = omega arith in
    rw (← e) (fields_hold width bytes base (place + width) next more low high (stands_tail width 0 (fields width (place + width) next more) bytes (base + place) (base + (place + width)) (omega arith) f) p (omega arith) small whole narrow)
fields_hold width bytes base place next (Number n ∷ more) low high f p room small whole narrow =
    let e : base + (place + width) ≡ base + place + width = omega arith in (
      stands_head width n (fields width (place + width) next more) bytes (base + place) f,
      rw (← e) (fields_hold width bytes base (place + width) next more low high (stands_tail width n (fields width (place + width) next more) bytes (base + place) (base + (place + width)) (omega arith) f) p (omega arith) small whole narrow),
    )
fields_hold width bytes base place next (Offset part ∷ more) low high f p room small whole narrow =
    let e : base + (place + width) ≡ base + place + width = omega arith in
    let g : base + (next + length part.bytes) ≡ base + next + length part.bytes = omega arith in
    let offset = next + part.root - place in
    let len = length-append part.bytes (children more) in
    let rest = fields width (place + width) (next + length part.bytes) more in
    let inside : part.root < length part.bytes = whole.0.rooted in
    let step : place + width * suc (length more) ≤ next = room in
    let head : target_of bytes (base + place) ≡ Ok (base + place + offset) = stands_target offset bytes (base + place) (omega arith) (narrow offset bytes (base + place) (stands_head width offset rest bytes (base + place) f)) in
    let there : base + place + offset ≡ base + next + part.root = omega arith in (
      head ∙ ap Ok there,
      stands_first part.bytes (children more) bytes (base + next) p,
      rw (← e, ← g) (fields_hold width bytes base (place + width) (next + length part.bytes) more low high
          (stands_tail width offset rest bytes (base + place) (base + (place + width)) (omega arith) f)
          (stands_at (children more) bytes (base + next + length part.bytes) (base + (next + length part.bytes)) (omega arith) (stands_then part.bytes (children more) bytes (base + next) p))
          (omega arith) (omega arith) whole.1 narrow),
    )

-- what a vtable's entry says
field_none : (t : TableAt) (slot v size : ℕ) → vtable_of t ≡ Ok v → number_at 2 t.bytes v ≡ Ok size → 2 * slot + 6 ≤ size →
    number_at 2 t.bytes (v + (2 * slot + 4)) ≡ Ok 0 → field_of t slot ≡ Ok None
unfolding field_of
field_none t slot v size vt sz room entry = rw (vt, sz, le-ltb size (2 * slot + 6) room, entry) refl

field_past : (t : TableAt) (slot v size : ℕ) → vtable_of t ≡ Ok v → number_at 2 t.bytes v ≡ Ok size → size < 2 * slot + 6 → field_of t slot ≡ Ok None
unfolding field_of
field_past t slot v size vt sz past = rw (vt, sz, lt-ltb size (2 * slot + 6) past) refl

field_some : (t : TableAt) (slot v size entry : ℕ) → vtable_of t ≡ Ok v → number_at 2 t.bytes v ≡ Ok size → 2 * slot + 6 ≤ size →
    number_at 2 t.bytes (v + (2 * slot + 4)) ≡ Ok (suc entry) → field_of t slot ≡ Ok (Some (t.at + suc entry))
unfolding field_of
field_some t slot v size entry vt sz room e = rw (vt, sz, le-ltb size (2 * slot + 6) room, e, eqb-suc-zero entry) refl

-- where the field of a slot stands, in a table whose fields stand in the order of the slots
abbrev field_place : TableAt → ℕ → ℕ
field_place t slot = t.at + (8 + 8 * slot)

-- a slot's field is at its place, and a slot reads as what it was given
abbrev SlotTold : TableAt → ℕ → Given → Type 0
SlotTold t slot Absent = field_of t slot ≡ Ok None
SlotTold t slot (Number n) = (field_of t slot ≡ Ok (Some (field_place t slot))) × Stands (little 8 n) t.bytes (field_place t slot)
SlotTold t slot (Offset part) = (field_of t slot ≡ Ok (Some (field_place t slot))) × LeadsToBlock t slot part

-- the same of the slots from one on
abbrev Told : TableAt → ℕ → List Given → Type 0
Told t slot [] = Unit {0}
Told t slot (given ∷ more) = SlotTold t slot given × Told t (suc slot) more

-- a field that is there, by its entry
field_there : (t : TableAt) (slot v count : ℕ) (rest : List ℕ) → vtable_of t ≡ Ok v → number_at 2 t.bytes v ≡ Ok (4 + 2 * count) → slot < count → 8 + 8 * slot < 2 ^ 16 →
    Stands (numbers 2 ((8 + 8 * slot) ∷ rest)) t.bytes (v + (2 * slot + 4)) → field_of t slot ≡ Ok (Some (field_place t slot))
field_there t slot v count rest vt sz within small s =
    let entry : number_at 2 t.bytes (v + (2 * slot + 4)) ≡ Ok (8 + 8 * slot) = stands_number 2 (8 + 8 * slot) t.bytes (v + (2 * slot + 4)) (omega arith) (stands_head 2 (8 + 8 * slot) rest t.bytes (v + (2 * slot + 4)) s) in
    let g : 8 + 8 * slot ≡ suc (7 + 8 * slot) = omega arith in
    let field = field_some t slot v (4 + 2 * count) (7 + 8 * slot) vt sz (omega arith) (entry ∙ ap Ok g) in
    let e : t.at + suc (7 + 8 * slot) ≡ t.at + (8 + 8 * slot) = omega arith in
    field ∙ ap (λ (n : ℕ). Ok (Some n)) e

told_from : (t : TableAt) (v count slot next : ℕ) (slots : List Given) → vtable_of t ≡ Ok v → number_at 2 t.bytes v ≡ Ok (4 + 2 * count) →
    count ≡ slot + length slots → 8 + 8 * count < 2 ^ 16 → Stands (numbers 2 (entries (8 + 8 * slot) slots)) t.bytes (v + (2 * slot + 4)) →
    (t.at % 8 ≡ 0 → next % 8 ≡ 0) → AreWhole slots → FieldsHold 8 t.bytes (t.at + (8 + 8 * slot)) next slots → Told t slot slots
told_from t v count slot next [] vt sz all few s even whole h = tt
told_from t v count slot next (Absent ∷ more) vt sz all few s even whole h =
    let e : 8 + 8 * slot + 8 ≡ 8 + 8 * suc slot = omega arith in
    let f : t.at + (8 + 8 * slot) + 8 ≡ t.at + (8 + 8 * suc slot) = omega arith in
    let s2 = stands_tail 2 0 (entries (8 + 8 * slot + 8) more) t.bytes (v + (2 * slot + 4)) (v + (2 * suc slot + 4)) (omega arith) s in (
      field_none t slot v (4 + 2 * count) vt sz (omega arith) (stands_number 2 0 t.bytes (v + (2 * slot + 4)) (omega arith) (stands_head 2 0 (entries (8 + 8 * slot + 8) more) t.bytes (v + (2 * slot + 4)) s)),
      told_from t v count (suc slot) next more vt sz (omega arith) few (rw e at s2) even whole (rw f at h),
    )
told_from t v count slot next (Number n ∷ more) vt sz all few s even whole h =
    let e : 8 + 8 * slot + 8 ≡ 8 + 8 * suc slot = omega arith in
    let f : t.at + (8 + 8 * slot) + 8 ≡ t.at + (8 + 8 * suc slot) = omega arith in
    let s2 = stands_tail 2 (8 + 8 * slot) (entries (8 + 8 * slot + 8) more) t.bytes (v + (2 * slot + 4)) (v + (2 * suc slot + 4)) (omega arith) s in
    let h1 = h.1 in (
      (field_there t slot v count (entries (8 + 8 * slot + 8) more) vt sz (omega arith) (omega arith) s, h.0),
      told_from t v count (suc slot) next more vt sz (omega arith) few (rw e at s2) even whole (rw f at h1),
    )
told_from t v count slot next (Offset part ∷ more) vt sz all few s even whole h =
    let e : 8 + 8 * slot + 8 ≡ 8 + 8 * suc slot = omega arith in
    let f : t.at + (8 + 8 * slot) + 8 ≡ t.at + (8 + 8 * suc slot) = omega arith in
    let s2 = stands_tail 2 (8 + 8 * slot) (entries (8 + 8 * slot + 8) more) t.bytes (v + (2 * slot + 4)) (v + (2 * suc slot + 4)) (omega arith) s in
    let field = field_there t slot v count (entries (8 + 8 * slot + 8) more) vt sz (omega arith) (omega arith) s in
    let even2 : t.at % 8 ≡ 0 → (next + length part.bytes) % 8 ≡ 0 = λ (a : t.at % 8 ≡ 0). (let b = even a in let c = whole.0.whole in omega arith) in
    let h2 = h.2 in (
      (field, record { from = t.at + (8 + 8 * slot); place = next; field = field; target = h.0; stands = h.1; aligned = even }),
      told_from t v count (suc slot) (next + length part.bytes) more vt sz (omega arith) few (rw e at s2) even2 whole.1 (rw f at h2),
    )

vtable_before : (bytes : List ℕ) (at root : ℕ) → number_at 4 bytes (at + root) ≡ Ok root → root < 2 ^ 31 →
    vtable_of (record { bytes = bytes; at = at + root }) ≡ Ok at
unfolding vtable_of
vtable_before bytes at root e small =
    let f : at + root - root ≡ at = omega arith in
    rw (e, lt-ltb root (2 ^ 31) small, le-leb root (at + root) (omega arith), f) refl

-- the vtable's numbers, the table's first field and its others stand where they are looked for
table_stands : (slots : List Given) (bytes : List ℕ) (at root : ℕ) → root ≡ length (vtable slots) → Stands (table_part slots).bytes bytes at →
    Stands (numbers 2 ((4 + 2 * length slots) ∷ (8 + 8 * length slots) ∷ entries 8 slots)) bytes at
    × Stands (little 8 root) bytes (at + root)
    × Stands (numbers 8 (fields 8 (root + 8) (root + 8 + 8 * length slots) slots)) bytes (at + (root + 8))
    × Stands (children slots) bytes (at + (root + 8 + 8 * length slots))
unfolding table_part vtable
table_stands slots bytes at root e s =
    let v = vtable slots in
    let r = length v in
    let fs = numbers 8 (fields 8 (r + 8) (r + 8 + 8 * length slots) slots) in
    let nums = numbers 2 ((4 + 2 * length slots) ∷ (8 + 8 * length slots) ∷ entries 8 slots) in
    let s1 = stands_first nums (padding (length nums)) bytes at (stands_first v (little 8 r ++ (fs ++ children slots)) bytes at s) in
    let s2 = stands_then v (little 8 r ++ (fs ++ children slots)) bytes at s in
    let s3 = stands_first (little 8 r) (fs ++ children slots) bytes (at + r) s2 in
    let w8 = length-little 8 r in
    let s4 = stands_at (fs ++ children slots) bytes (at + r + length (little 8 r)) (at + (r + 8)) (omega arith) (stands_then (little 8 r) (fs ++ children slots) bytes (at + r) s2) in
    let w = length-numbers 8 (fields 8 (r + 8) (r + 8 + 8 * length slots) slots) in
    let c = length-fields 8 (r + 8) (r + 8 + 8 * length slots) slots in
    let s5 = stands_at (children slots) bytes (at + (r + 8) + length fs) (at + (r + 8 + 8 * length slots)) (omega arith) (stands_then fs (children slots) bytes (at + (r + 8)) s4) in
    rw e (s1, s3, stands_first fs (children slots) bytes (at + (r + 8)) s4, s5)

-- how long a table is with what it leads to
pub length-table : (slots : List Given) → length (table_part slots).bytes ≡ length (vtable slots) + 8 + 8 * length slots + length (children slots)
unfolding table_part
length-table slots =
    let v = vtable slots in
    let r = length v in
    let fs = numbers 8 (fields 8 (r + 8) (r + 8 + 8 * length slots) slots) in
    let a = length-append v (little 8 r ++ (fs ++ children slots)) in
    let b = length-append (little 8 r) (fs ++ children slots) in
    let d = length-append fs (children slots) in
    let w8 = length-little 8 r in
    let w = length-numbers 8 (fields 8 (r + 8) (r + 8 + 8 * length slots) slots) in
    let c = length-fields 8 (r + 8) (r + 8 + 8 * length slots) slots in
    omega arith

-- a vtable is a multiple of 8
pub whole_vtable : (slots : List Given) → length (vtable slots) % 8 ≡ 0
unfolding vtable
whole_vtable slots = length_padded (numbers 2 ((4 + 2 * length slots) ∷ (8 + 8 * length slots) ∷ entries 8 slots))

-- a table begins right after its vtable
pub root_table : (slots : List Given) → (table_part slots).root ≡ length (vtable slots)
unfolding table_part
root_table slots = refl

-- the vtable of a written table
pub vtable_reads : VtableReadsBack
unfolding table_part
vtable_reads slots bytes at fits s =
    let root = length (vtable slots) in
    let few = fits.few in
    let short = fits.small in
    let len = length-table slots in
    let w = table_stands slots bytes at root refl s in
    let rest = entries 8 slots in
    let c = length slots in
    let s2 = stands_tail 2 (4 + 2 * c) ((8 + 8 * c) ∷ rest) bytes at (at + 2) refl w.0 in (
      vtable_before bytes at root (stands_number 4 root bytes (at + root) (omega arith) (stands_low 4 root bytes (at + root) (omega arith) w.1)) (omega arith),
      stands_number 2 (4 + 2 * c) bytes at (omega arith) (stands_head 2 (4 + 2 * c) ((8 + 8 * c) ∷ rest) bytes at w.0),
      stands_number 2 (8 + 8 * c) bytes (at + 2) (omega arith) (stands_head 2 (8 + 8 * c) rest bytes (at + 2) s2),
    )

-- a written table has the slots that it was given
table_told : (slots : List Given) (bytes : List ℕ) (at : ℕ) → FitsTable slots → AreWhole slots → Stands (table_part slots).bytes bytes at →
    Told (table_at bytes at (table_part slots)) 0 slots
unfolding table_part
table_told slots bytes at fits whole s =
    let root = length (vtable slots) in
    let even = whole_vtable slots in
    let few = fits.few in
    let short = fits.small in
    let len = length-table slots in
    let w = table_stands slots bytes at root refl s in
    let t : TableAt = record { bytes = bytes; at = at + root } in
    let v = vtable_reads slots bytes at fits s in
    let rest = entries 8 slots in
    let c = length slots in
    let next = root + 8 + 8 * c in
    let s2 = stands_tail 2 (4 + 2 * c) ((8 + 8 * c) ∷ rest) bytes at (at + 2) refl w.0 in
    let s4 = stands_tail 2 (8 + 8 * c) rest bytes (at + 2) (at + (2 * 0 + 4)) (omega arith) s2 in
    let hold : FieldsHold 8 bytes (at + (root + 8)) (at + next) slots = fields_hold 8 bytes at (root + 8) next slots (omega arith) (omega arith) w.2 w.3 (omega arith) (omega arith) whole (λ n b place h. stands_low 4 n b place (omega arith) h) in
    let e : at + (root + 8) ≡ at + root + (8 + 8 * 0) = omega arith in
    let aligned : (at + root) % 8 ≡ 0 → (at + next) % 8 ≡ 0 = λ (a : (at + root) % 8 ≡ 0). omega arith in
    told_from t at c 0 (at + next) slots v.0 v.1 (omega arith) (omega arith) s4 aligned whole (rw e at hold)

-- each slot of those from one on, and those past them
told_at : (t : TableAt) (slot : ℕ) (slots : List Given) → Told t slot slots → ((past : ℕ) → slot + length slots ≤ past → field_of t past ≡ Ok None) →
    (index i : ℕ) → slot + index ≡ i → SlotTold t i (given_at slots index)
told_at t slot [] told past index i e = past i (omega arith)
told_at t slot (given ∷ more) told past zero i e =
    let f : slot ≡ i = omega arith in
    subst (λ (n : ℕ). SlotTold t n given) f told.0
told_at t slot (given ∷ more) told past (suc index) i e =
    told_at t (suc slot) more told.1 (λ (n : ℕ) (le : suc slot + length more ≤ n). past n (omega arith)) index i (omega arith)

slot_told : (slots : List Given) (bytes : List ℕ) (at : ℕ) → FitsTable slots → AreWhole slots → Stands (table_part slots).bytes bytes at →
    (slot : ℕ) → SlotTold (table_at bytes at (table_part slots)) slot (given_at slots slot)
slot_told slots bytes at fits whole s slot =
    let t = table_at bytes at (table_part slots) in
    let v = vtable_reads slots bytes at fits s in
    let c = length slots in
    told_at t 0 slots (table_told slots bytes at fits whole s) (λ (n : ℕ) (le : 0 + c ≤ n). field_past t n at (4 + 2 * c) v.0 v.1 (omega arith)) slot slot (omega arith)

scalar_reads : (t : TableAt) (slot at n width default : ℕ) → field_of t slot ≡ Ok (Some at) → Stands (little 8 n) t.bytes at → width ≤ 8 → n < 256 ^ width →
    scalar_of width t slot default ≡ Ok n
unfolding scalar_of
scalar_reads t slot at n width default field s high small = rw (field, stands_number width n t.bytes at small (stands_low width n t.bytes at high s)) refl

slot_reads : (t : TableAt) (slot : ℕ) (given : Given) → SlotTold t slot given → SlotReads t slot given
slot_reads t slot Absent told = told
slot_reads t slot (Number n) told = λ width default high small. scalar_reads t slot (field_place t slot) n width default told.0 told.1 high small
slot_reads t slot (Offset part) told = told.1

-- every slot of a written table reads as what it was given
pub table_reads : TableReadsBack
table_reads slots bytes at fits whole s slot =
    slot_reads (table_at bytes at (table_part slots)) slot (given_at slots slot) (slot_told slots bytes at fits whole s slot)

-- a field that is there is at its place
field_placed : (t : TableAt) (slot from : ℕ) (given : Given) → SlotTold t slot given → field_of t slot ≡ Ok (Some from) → from ≡ field_place t slot
field_placed t slot from Absent told e = cc
field_placed t slot from (Number n) told e = let f = told.0 in cc
field_placed t slot from (Offset part) told e = let f = told.0 in cc

-- a written table and its fields stand at multiples of 8
pub table_aligned : TableIsAligned
table_aligned slots bytes at fits whole s even =
    let r = root_table slots in
    let v = whole_vtable slots in
    let t = table_at bytes at (table_part slots) in
    let b : (at + (table_part slots).root) % 8 ≡ 0 = omega arith in
    let each : (slot from : ℕ) → field_of t slot ≡ Ok (Some from) → from % 8 ≡ 0 = λ (slot : ℕ) (from : ℕ) (e : field_of t slot ≡ Ok (Some from)).
    (let f : from ≡ at + (table_part slots).root + (8 + 8 * slot) = field_placed t slot from (given_at slots slot) (slot_told slots bytes at fits whole s slot) e in omega arith) in
    (b, each)
