-- So it is with lists of fields: what reads as a list is one, and no other list is.
use Rattle.std.proofs.Common.{◌≡◌, ◌≢◌, ℕ, zero, suc, ◌<◌, ◌≤◌, ◌↔◌, List, [], ◌∷◌, length, Option, Some, None, Result, Ok, Err, refl, sym, ◌∙◌, arith}
use Rattle.scan_base.specs.declared.fault.Fault.{Fault}
use Rattle.scan_base.specs.declared.fault.Fault.TheVariants.{BadProto}
use Rattle.scan_base.specs.Reading.{◌>>=◌}
use Rattle.proto_wire.specs.declared.field.Field.{Field}
use Rattle.proto_wire.specs.Standard.{Entry, IsFields, StandsInFront}
use Rattle.proto_wire.specs.Reading.{field_at, fields_within, fields_of}
use Rattle.proto_wire.specs.Calls.{entry_of, ReadsFront, KeepsStandard, ReadsOn}
use Rattle.proto_wire.proofs.Then.{same_Ok, then_ok}
use Rattle.proto_wire.proofs.Fronts.{field_stands, field_again, front_shorter}

fields_stand : (most : ℕ) (bytes : List ℕ) (entries : List Entry) → fields_within most bytes ≡ Ok entries → IsFields bytes entries
unfolding fields_within
fields_stand zero [] entries e = let h = same_Ok [] entries e in rw (← h) refl
fields_stand (suc most) [] entries e = let h = same_Ok [] entries e in rw (← h) refl
fields_stand zero (b ∷ bytes) entries e = absurd cc
fields_stand (suc most) (b ∷ bytes) entries e =
    then_ok (field_at (b ∷ bytes)) (λ (first : Entry × List ℕ). fields_within most first.1 >>= λ (others : List Entry). Ok (first.0 ∷ others)) entries e (λ first found after.
    then_ok (fields_within most first.1) (λ (others : List Entry). Ok (first.0 ∷ others)) entries after (λ others rest_found made.
    let p = same_Ok (first.0 ∷ others) entries made in
    let s = field_stands (b ∷ bytes) first.0 first.1 found in
    rw (← p) (s.front, first.1, s.whole, s.is_field, fields_stand most first.1 others rest_found)))

fields_again : (entries : List Entry) (most : ℕ) (bytes : List ℕ) → length bytes ≤ most → IsFields bytes entries → fields_within most bytes ≡ Ok entries
unfolding fields_within
fields_again [] zero bytes le h = rw h refl
fields_again [] (suc most) bytes le h = rw h refl
fields_again (entry ∷ entries) most [] le h =
    absurd (let s = front_shorter [] entry h.1 (record { front = h.0; whole = h.2; is_field = h.3 }) in omega arith)
fields_again (entry ∷ entries) zero (b ∷ bytes) le h = absurd (omega arith)
fields_again (entry ∷ entries) (suc most) (b ∷ bytes) le h =
    let s : StandsInFront entry (b ∷ bytes) h.1 = record { front = h.0; whole = h.2; is_field = h.3 } in
    let shorter = front_shorter (b ∷ bytes) entry h.1 s in
    rw (field_again (b ∷ bytes) entry h.1 s, fields_again entries most h.1 (omega arith) h.4) refl

pub list_law : (bytes : List ℕ) (entries : List Entry) → (fields_of bytes ≡ Ok entries) ↔ IsFields bytes entries
unfolding fields_of
list_law bytes entries = (fields_stand (length bytes) bytes entries, fields_again entries (length bytes) bytes (omega arith))

pub at_most_one_list : (bytes : List ℕ) (entries others : List Entry) → IsFields bytes entries → IsFields bytes others → entries ≡ others
at_most_one_list bytes entries others s t =
    same_Ok entries others (sym ((list_law bytes entries).1 s) ∙ (list_law bytes others).1 t)

-- ---- one field more

-- room beyond the length changes nothing
fields_more : (m n : ℕ) (bytes : List ℕ) → length bytes ≤ m → length bytes ≤ n → fields_within m bytes ≡ fields_within n bytes
unfolding fields_within
fields_more zero zero [] p q = refl
fields_more zero (suc n) [] p q = refl
fields_more (suc m) zero [] p q = refl
fields_more (suc m) (suc n) [] p q = refl
fields_more zero n (b ∷ bytes) p q = absurd (omega arith)
fields_more (suc m) zero (b ∷ bytes) p q = absurd (omega arith)
fields_more (suc m) (suc n) (b ∷ bytes) p q =
    same (field_at (b ∷ bytes)) refl (λ rest l. fields_more m n rest (omega arith) (omega arith))
  where
    same : (read : Result (Entry × List ℕ) Fault) → field_at (b ∷ bytes) ≡ read → ((rest : List ℕ) → length rest < length (b ∷ bytes) → fields_within m rest ≡ fields_within n rest) → fields_within (suc m) (b ∷ bytes) ≡ fields_within (suc n) (b ∷ bytes)
    same (Err fault) e others = rw e refl
    same (Ok first) e others =
        rw (e, others first.1 (front_shorter (b ∷ bytes) first.0 first.1 (field_stands (b ∷ bytes) first.0 first.1 e))) refl

fields_step : (bytes : List ℕ) (entry : Entry) (rest : List ℕ) → field_at bytes ≡ Ok (entry, rest) → (fields_of bytes ≡ (fields_of rest >>= λ entries. Ok (entry ∷ entries))) × (length rest < length bytes)
fields_step [] entry rest e =
    absurd (let s = front_shorter [] entry rest (field_stands [] entry rest e) in omega arith)
fields_step (b ∷ bytes) entry rest e =
    let s = front_shorter (b ∷ bytes) entry rest (field_stands (b ∷ bytes) entry rest e) in
    (unfold fields_of fields_within in rw (e, fields_more (length bytes) (length rest) rest (omega arith) (omega arith)) refl, s)

fields_stop : (bytes : List ℕ) (fault : Fault) → bytes ≢ [] → field_at bytes ≡ Err fault → fields_of bytes ≡ Err fault
unfolding fields_of fields_within
fields_stop [] fault ne e = absurd (ne refl)
fields_stop (b ∷ bytes) fault ne e = rw e refl

fields_end : fields_of [] ≡ Ok []
unfolding fields_of fields_within
fields_end = refl

-- ---- what is known of the front, said in other words

-- in the standard's words
pub keeps_standard : (r : Result (Option Field) Fault) (old new : List ℕ) → ReadsFront r old new → KeepsStandard r old new
keeps_standard (Ok (Some field)) old new h = field_stands old (entry_of field) new h
keeps_standard (Ok None) old new h = h
keeps_standard (Err fault) old new h =
    (h.1, λ entry rest s. let read = field_again old entry rest s in let stop = h.2 in cc, h.3)

-- of the whole list
pub reads_on : (r : Result (Option Field) Fault) (old new : List ℕ) → ReadsFront r old new → ReadsOn r old new
reads_on (Ok (Some field)) old new h = fields_step old (entry_of field) new h
reads_on (Ok None) old new h = rw h.0 fields_end
reads_on (Err fault) old new h = rw h.0 (fields_stop old BadProto h.1 h.2)
