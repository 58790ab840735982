-- The fields of a message, part by part.
use Rattle.std.proofs.Common.{◌≡◌, ℕ, zero, suc, ◌+◌, ◌<◌, ◌==◌, Bool, true, false, List, [], ◌∷◌, ◌++◌, length, Option, Some, None, Result, Ok, Err, refl, sym, ap, ◌∙◌, arith, length-append, append-nil, append_assoc, if◌then◌else◌}
use Rattle.std.specs.Prelude.{unwrap_or, is_some, IsOk}
use Rattle.scan_base.specs.declared.fault.Fault.{Fault}
use Rattle.scan_base.specs.declared.fault.Fault.TheVariants.{BadProto}
use Rattle.scan_base.specs.Reading.{◌>>=◌}
use Rattle.proto_wire.specs.declared.field.Field.{Field}
use Rattle.proto_wire.specs.Standard.{Content, Varint, Fixed64, Chunk, Fixed32, Entry, StandsInFront, IsGroups}
use Rattle.proto_wire.specs.Reading.{field_at, fields_within, fields_of}
use Rattle.proto_wire.specs.Calls.{entry_of, ReadsOn, KeepsStandard}
use Rattle.proto_wire.proofs.Then.{same_Err}
use Rattle.proto_wire.proofs.Faults.{field_fault}
use Rattle.flight_proto.specs.Lookup.{held, chunk_of, chunks, fields_of_parts, parts_in, parts_within}
use Rattle.flight_proto.specs.Cursor.{fields_left, read_or_none, LeftOn}

-- ---- no other fault than `BadProto` is read

then_err : {A B : Type 0} (read : Result A Fault) (next : A → Result B Fault) (fault : Fault) → ((found : Fault) → read ≡ Err found → found ≡ BadProto) → ((x : A) → next x ≡ Err fault → fault ≡ BadProto) → (read >>= next) ≡ Err fault → fault ≡ BadProto
then_err (Ok x) next fault first more e = more x e
then_err (Err found) next fault first more e = sym (same_Err found fault e) ∙ first found refl

within_fault : (most : ℕ) (bytes : List ℕ) (fault : Fault) → fields_within most bytes ≡ Err fault → fault ≡ BadProto
unfolding fields_within
within_fault zero [] fault e = absurd cc
within_fault (suc most) [] fault e = absurd cc
within_fault zero (b ∷ bytes) fault e = sym (same_Err {A = List Entry} BadProto fault e)
within_fault (suc most) (b ∷ bytes) fault e =
    then_err (field_at (b ∷ bytes)) _ fault (field_fault (b ∷ bytes)) (λ first after.
    then_err (fields_within most first.1) _ fault (within_fault most first.1) (λ others made. absurd cc) after) e

pub fields_fault : (bytes : List ℕ) (fault : Fault) → fields_of bytes ≡ Err fault → fault ≡ BadProto
unfolding fields_of
fields_fault bytes fault e = within_fault (length bytes) bytes fault e

pub parts_fault : (parts : List (List ℕ)) (fault : Fault) → fields_of_parts parts ≡ Err fault → fault ≡ BadProto
unfolding fields_of_parts
parts_fault [] fault e = absurd cc
parts_fault (part ∷ parts) fault e =
    then_err (fields_of part) _ fault (fields_fault part) (λ first after.
    then_err (fields_of_parts parts) _ fault (parts_fault parts) (λ others made. absurd cc) after) e

pub left_fault : (part later : List ℕ) (number : ℕ) (fault : Fault) → fields_left part later number ≡ Err fault → fault ≡ BadProto
unfolding fields_left
left_fault part later number fault e =
    then_err (fields_of part) _ fault (fields_fault part) (λ first after.
    then_err (fields_of later) _ fault (fields_fault later) (λ fields more.
    then_err (parts_in number fields) _ fault (parts_fault (chunks number fields)) (λ others made. absurd cc) more) after) e

-- no bytes are no fields
pub no_fields : fields_of [] ≡ Ok []
unfolding fields_of fields_within
no_fields = refl

-- the whole message is one part
pub whole_left : (bytes : List ℕ) (number : ℕ) → fields_left bytes [] number ≡ fields_of bytes
unfolding fields_left fields_of_parts
whole_left bytes number = rw no_fields (by (fields_of bytes))
  where
    by : (read : Result (List Entry) Fault) → (read >>= λ first. Ok (first ++ [])) ≡ read
    by (Ok fields) = ap Ok (append-nil fields)
    by (Err fault) = refl

-- an embedded one is the parts
pub parts_left : (bytes : List ℕ) (number : ℕ) → fields_left [] bytes number ≡ (fields_of bytes >>= parts_in number)
unfolding fields_left
parts_left bytes number = rw no_fields (by (fields_of bytes))
  where
    same : (read : Result (List Entry) Fault) → (read >>= λ others. Ok others) ≡ read
    same (Ok fields) = refl
    same (Err fault) = refl

    by : (read : Result (List Entry) Fault) → (read >>= λ fields. parts_in number fields >>= λ others. Ok ([] ++ others)) ≡ (read >>= parts_in number)
    by (Ok fields) = same (parts_in number fields)
    by (Err fault) = refl

-- ---- a message is what is left at its start

-- where all reads, the fields are what is read
all_read : (read : Result (List Entry) Fault) → IsOk read → read ≡ Ok (read_or_none read)
all_read (Ok fields) h = refl
all_read (Err fault) h = absurd cc

pub whole_read : (bytes part later : List ℕ) (number : ℕ) → part ≡ bytes → later ≡ [] → IsOk (fields_left part later number) → fields_of bytes ≡ Ok (read_or_none (fields_left bytes [] number))
whole_read bytes part later number a b h =
    let same = whole_left bytes number in
    let ok : IsOk (fields_of bytes) = rw (a, b, same) at h in
    all_read (fields_of bytes) ok ∙ ap (λ (read : Result (List Entry) Fault). Ok (read_or_none read)) (sym same)

pub whole_refused : (bytes part later : List ℕ) (number : ℕ) (fault : Fault) → part ≡ bytes → later ≡ [] → fields_left part later number ≡ Err fault → (fields_of bytes ≡ Err fault) × (fault ≡ BadProto)
whole_refused bytes part later number fault a b h =
    let refused : fields_of bytes ≡ Err fault = rw (a, b, whole_left bytes number) at h in
    (refused, fields_fault bytes fault refused)

pub parts_read : (bytes part later : List ℕ) (number : ℕ) → part ≡ [] → later ≡ bytes → IsOk (fields_left part later number) → parts_within number bytes ≡ Ok (read_or_none (fields_left [] bytes number))
parts_read bytes part later number a b h =
    let same = parts_left bytes number in
    let ok : IsOk (parts_within number bytes) = rw (a, b, same) at h in
    all_read (parts_within number bytes) ok ∙ ap (λ (read : Result (List Entry) Fault). Ok (read_or_none read)) (sym same)

pub parts_refused : (bytes part later : List ℕ) (number : ℕ) (fault : Fault) → part ≡ [] → later ≡ bytes → fields_left part later number ≡ Err fault → (parts_within number bytes ≡ Err fault) × (fault ≡ BadProto)
parts_refused bytes part later number fault a b h =
    let refused : parts_within number bytes ≡ Err fault = rw (a, b, parts_left bytes number) at h in
    (refused, left_fault part later number fault h)

-- ---- one step

-- a part that is over gives way to the next
module _ (number : ℕ) (entry : Entry) (old new : List ℕ) (h : fields_of old ≡ (fields_of new >>= λ entries. Ok (entry ∷ entries))) where
  -- what is left after a part that is over, where the next field holds this
  passed : (found : Option (List ℕ)) → held chunk_of number entry ≡ found → fields_left [] old number ≡ fields_left (unwrap_or found []) new number
  unfolding fields_left fields_of_parts
  passed found e = rw (h, no_fields) (by found e (fields_of new) refl)
    where
      none : (read : Result (List Entry) Fault) → (read >>= λ others. Ok ([] ++ others)) ≡ (read >>= λ others. Ok ([] ++ others))
      none read = refl

      some : (first others : Result (List Entry) Fault) → ((first >>= λ a. others >>= λ b. Ok (a ++ b)) >>= λ all. Ok ([] ++ all)) ≡ (first >>= λ a. others >>= λ b. Ok (a ++ b))
      some (Ok a) (Ok b) = refl
      some (Ok a) (Err fault) = refl
      some (Err fault) others = refl

      bad : (chunk : List ℕ) (fault : Fault) → fault ≡ BadProto → (first left : Result (List Entry) Fault) → fields_of chunk ≡ first → left ≡ Err fault → left ≡ (first >>= λ a. left)
      bad chunk fault is (Ok a) left k same = refl
      bad chunk fault is (Err other) left k same = same ∙ ap Err (is ∙ sym (fields_fault chunk other k))

      by : (found : Option (List ℕ)) → held chunk_of number entry ≡ found → (left : Result (List Entry) Fault) → fields_of new ≡ left
          → ((left >>= λ entries. Ok (entry ∷ entries)) >>= λ fields. parts_in number fields >>= λ others. Ok ([] ++ others))
          ≡ (fields_of (unwrap_or found []) >>= λ first. left >>= λ fields. parts_in number fields >>= λ others. Ok (first ++ others))
      by None e (Ok entries) k = rw (e, no_fields) refl
      by None e (Err fault) k = rw no_fields refl
      by (Some chunk) e (Ok entries) k = rw e (some (fields_of chunk) (fields_of_parts (chunks number entries)))
      by (Some chunk) e (Err fault) k = bad chunk fault (fields_fault new fault k) (fields_of chunk) (Err fault) refl refl

-- a field is taken from a part
pub taken : (number : ℕ) (field : Field) (part more later : List ℕ) → fields_of part ≡ (fields_of more >>= λ entries. Ok (entry_of field ∷ entries))
    → fields_left part later number ≡ (fields_left more later number >>= λ fields. Ok (entry_of field ∷ fields))
unfolding fields_left
taken number field part more later h = rw h (by (fields_of more) (fields_of later))
  where
    each : (first : List Entry) (others : Result (List Entry) Fault) → (others >>= λ o. Ok (entry_of field ∷ first ++ o)) ≡ ((others >>= λ o. Ok (first ++ o)) >>= λ fields. Ok (entry_of field ∷ fields))
    each first (Ok others) = refl
    each first (Err fault) = refl

    by : (here there : Result (List Entry) Fault)
        → ((here >>= λ entries. Ok (entry_of field ∷ entries)) >>= λ first. there >>= λ fields. parts_in number fields >>= λ others. Ok (first ++ others))
        ≡ ((here >>= λ first. there >>= λ fields. parts_in number fields >>= λ others. Ok (first ++ others)) >>= λ fields. Ok (entry_of field ∷ fields))
    by (Ok first) (Ok fields) = each first (parts_in number fields)
    by (Ok first) (Err fault) = refl
    by (Err fault) there = refl

-- what is read of a part that is not over is read of what is left
pub part_read : (result : Result (Option Field) Fault) (number : ℕ) (part more later : List ℕ) → ReadsOn result part more → KeepsStandard result part more → (length part ≡ 0 → ⊥)
    → LeftOn result (fields_left part later number) (fields_left more later number)
unfolding fields_left
part_read (Ok (Some field)) number part more later on keeps some = taken number field part more later on.0
part_read (Ok None) number part more later on keeps some = absurd (some (ap length keeps.0))
part_read (Err fault) number part more later on keeps some = rw on refl

-- a part of no bytes is over
over : (number : ℕ) (part later : List ℕ) → length part ≡ 0 → fields_left part later number ≡ fields_left [] later number
over number [] later e = refl
over number (b ∷ part) later e = absurd (omega arith)

none_refused : (number : ℕ) (later : List ℕ) (fault : Fault) → fields_of later ≡ Err fault → fields_left [] later number ≡ Err fault
unfolding fields_left
none_refused number later fault h = rw (no_fields, h) refl

pub later_refused : (number : ℕ) (part later : List ℕ) (fault : Fault) → length part ≡ 0 → fields_of later ≡ Err fault → fields_left part later number ≡ Err fault
later_refused number part later fault e h = over number part later e ∙ none_refused number later fault h

none_over : (number : ℕ) (later : List ℕ) → fields_of later ≡ Ok [] → fields_left [] later number ≡ Ok []
unfolding fields_left fields_of_parts
none_over number later h = rw (no_fields, h) refl

pub later_over : (number : ℕ) (part later : List ℕ) → length part ≡ 0 → fields_of later ≡ Ok [] → fields_left part later number ≡ Ok []
later_over number part later e h = over number part later e ∙ none_over number later h

-- the part that follows one that is over
pub next_part : (number : ℕ) (entry : Entry) (part old new chunk : List ℕ) → length part ≡ 0 → fields_of old ≡ (fields_of new >>= λ entries. Ok (entry ∷ entries)) → held chunk_of number entry ≡ Some chunk
    → fields_left part old number ≡ fields_left chunk new number
next_part number entry part old new chunk e h found = over number part old e ∙ passed number entry old new h (Some chunk) found

-- a field that is no part
pub no_part : (number : ℕ) (entry : Entry) (part old new : List ℕ) → length part ≡ 0 → fields_of old ≡ (fields_of new >>= λ entries. Ok (entry ∷ entries)) → held chunk_of number entry ≡ None
    → fields_left part old number ≡ fields_left part new number
no_part number entry part old new e h found = over number part old e ∙ passed number entry old new h None found ∙ sym (over number part new e)

-- nothing is left: all reads
pub ended : (found : Option Field) (old new : Result (List Entry) Fault) → is_some found ≡ false → LeftOn (Ok found) old new → IsOk old
ended (Some field) old new e left = absurd cc
ended None old new e left = rw left refl

-- ---- how many bytes are left

some_groups : (bytes : List ℕ) → IsGroups bytes → 0 < length bytes
some_groups [] g = absurd g
some_groups (b ∷ bytes) g = omega arith

-- the bytes of a field stand right before what follows it
pub chunk_place : (number : ℕ) (entry : Entry) (old new chunk : List ℕ) → StandsInFront entry old new → held chunk_of number entry ≡ Some chunk → (front : List ℕ) × (old ≡ front ++ (chunk ++ new))
chunk_place number entry old new chunk s e = by (entry.number == number) e
  where
    by_content : (content : Content) → entry.content ≡ content → chunk_of content ≡ Some chunk → (front : List ℕ) × (old ≡ front ++ (chunk ++ new))
    by_content (Varint value) k c = absurd cc
    by_content (Fixed64 value) k c = absurd cc
    by_content (Fixed32 value) k c = absurd cc
    by_content (Chunk bytes) k c =
        let f = s.is_field in
        let h = rw k at f.holds in
        let same : bytes ≡ chunk = cc in
        (f.tag ++ h.len, s.whole ∙ ap (λ (t : List ℕ). t ++ new) (f.whole ∙ ap (λ (t : List ℕ). f.tag ++ t) (h.whole ∙ ap (λ (t : List ℕ). h.len ++ t) same)) ∙ simp append_assoc)

    by : (same : Bool) → (if same then chunk_of entry.content else None) ≡ Some chunk → (front : List ℕ) × (old ≡ front ++ (chunk ++ new))
    by true c = by_content entry.content refl c
    by false c = absurd cc

pub chunk_shorter : (number : ℕ) (entry : Entry) (old new chunk : List ℕ) → StandsInFront entry old new → held chunk_of number entry ≡ Some chunk → length chunk + length new < length old
chunk_shorter number entry old new chunk s e = by (entry.number == number) e
  where
    by_content : (content : Content) → entry.content ≡ content → chunk_of content ≡ Some chunk → length chunk + length new < length old
    by_content (Varint value) k c = absurd cc
    by_content (Fixed64 value) k c = absurd cc
    by_content (Fixed32 value) k c = absurd cc
    by_content (Chunk bytes) k c =
        let f = s.is_field in
        let h = rw k at f.holds in
        let same : bytes ≡ chunk = cc in
        omega (
          arith,
          some_groups f.tag f.tag_is.groups,
          ap length same,
          ap length s.whole,
          ap length f.whole,
          ap length h.whole,
          length-append s.front new,
          length-append f.tag f.body,
          length-append h.len bytes,
        )

    by : (same : Bool) → (if same then chunk_of entry.content else None) ≡ Some chunk → length chunk + length new < length old
    by true c = by_content entry.content refl c
    by false c = absurd cc
