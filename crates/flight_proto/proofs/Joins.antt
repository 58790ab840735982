-- Two lists of fields, one after the other, are one list of fields.
use Rattle.std.proofs.Common.{◌≡◌, ℕ, List, [], ◌∷◌, ◌++◌, length, Result, Ok, Err, refl, sym, ap, ◌∙◌, append_assoc, arith}
use Rattle.std.specs.Prelude.{flat_map}
use Rattle.scan_base.specs.declared.fault.Fault.{Fault}
use Rattle.scan_base.specs.Reading.{◌>>=◌}
use Rattle.proto_wire.specs.Standard.{Entry, IsField, IsFields, StandsInFront}
use Rattle.proto_wire.specs.Reading.{fields_of}
use Rattle.proto_wire.proofs.Then.{then_ok}
use Rattle.proto_wire.proofs.Fronts.{front_shorter, at_most_one_front}
use Rattle.proto_wire.proofs.Lists.{list_law}
use Rattle.flight_proto.specs.Lookup.{fields_of_parts}
use Rattle.flight_proto.specs.Laws.{PartsJoin}
use Rattle.flight_proto.proofs.Cursors.{fields_fault, no_fields}

-- the list begins with the field in front
first_of : (entry : Entry) (front rest : List ℕ) → IsField front entry → fields_of (front ++ rest) ≡ (fields_of rest >>= λ entries. Ok (entry ∷ entries))
first_of entry front rest f = by (fields_of rest) refl
  where
    stands : StandsInFront entry (front ++ rest) rest
    stands = record { front = front; whole = refl; is_field = f }

    all_read : (found : List Entry) (fault : Fault) → IsFields (front ++ rest) found → fields_of rest ≡ Err fault → fields_of (front ++ rest) ≡ Err fault
    all_read [] fault h e = absurd (let shorter = front_shorter (front ++ rest) entry rest stands in omega (arith, ap length h))
    all_read (other ∷ others) fault h e =
        let same = at_most_one_front (front ++ rest) entry other rest h.1 stands (record { front = h.0; whole = h.2; is_field = h.3 }) in
        absurd (let read = (list_law rest others).1 (rw same.1 h.4) in cc)

    whole : (read : Result (List Entry) Fault) (fault : Fault) → fields_of (front ++ rest) ≡ read → fields_of rest ≡ Err fault → read ≡ Err fault
    whole (Ok found) fault e h = sym e ∙ all_read found fault ((list_law (front ++ rest) found).0 e) h
    whole (Err other) fault e h = ap Err (fields_fault (front ++ rest) other e ∙ sym (fields_fault rest fault h))

    by : (read : Result (List Entry) Fault) → fields_of rest ≡ read → fields_of (front ++ rest) ≡ (read >>= λ entries. Ok (entry ∷ entries))
    by (Ok entries) e = (list_law (front ++ rest) (entry ∷ entries)).1 (front, rest, refl, f, (list_law rest entries).0 e)
    by (Err fault) e = whole (fields_of (front ++ rest)) fault refl e

joined : (entries : List Entry) (first second : List ℕ) → IsFields first entries → fields_of (first ++ second) ≡ (fields_of second >>= λ others. Ok (entries ++ others))
joined [] first second h = rw h (same (fields_of second))
  where
    same : (read : Result (List Entry) Fault) → read ≡ (read >>= λ others. Ok others)
    same (Ok others) = refl
    same (Err fault) = refl
joined (entry ∷ entries) first second h =
    rw (h.2, append_assoc h.0 h.1 second, first_of entry h.0 (h.1 ++ second) h.3, joined entries h.1 second h.4) (same (fields_of second))
  where
    same : (read : Result (List Entry) Fault) → ((read >>= λ others. Ok (entries ++ others)) >>= λ others. Ok (entry ∷ others)) ≡ (read >>= λ others. Ok (entry ∷ entries ++ others))
    same (Ok others) = refl
    same (Err fault) = refl

pub parts_join : PartsJoin
unfolding fields_of_parts
parts_join [] fields e = no_fields ∙ e
parts_join (part ∷ parts) fields e =
    then_ok (fields_of part) _ fields e (λ first found made.
    then_ok (fields_of_parts parts) _ fields made (λ others rest same.
    joined first part (flat_map (λ part. part) parts) ((list_law part first).0 found) ∙ rw (parts_join parts others rest) same))
