-- What is looked up, one field after the other.
use Rattle.std.proofs.Common.{◌≡◌, ℕ, ◌+◌, ◌-◌, List, [], ◌∷◌, ◌++◌, length, take, drop, Option, Some, None, Result, Ok, Err, refl, sym, ap, ◌∙◌, append_assoc, arith}
use Rattle.std.specs.Prelude.{unwrap_or}
use Rattle.std.specs.List.{cons_option, last_or}
use Rattle.std.specs.Option.{option_or}
use Rattle.std.proofs.lemmas.List.{take_at, drop_at}
use Rattle.scan_base.specs.declared.fault.Fault.{Fault}
use Rattle.scan_base.specs.Reading.{◌>>=◌}
use Rattle.proto_wire.specs.Standard.{Entry}
use Rattle.proto_wire.specs.Reading.{fields_of}
use Rattle.flight_proto.specs.Lookup.{held, chunk_of, chunks}

-- the last value of a list that goes on
pub last_more : {A : Type 0} (last found : Option A) (values : List A) → last_or last (cons_option found values) ≡ last_or (option_or found last) values
last_more last (Some x) values = refl
last_more last None values = refl

-- ---- the last bytes of a number, and where they lie

-- the last bytes of what is still to be read, or else these
abbrev pub read_on : Option (List ℕ) → ℕ → List ℕ → Result (List ℕ) Fault
read_on last number bytes = fields_of bytes >>= λ fields. Ok (unwrap_or (last_or last (chunks number fields)) [])

pub read_more : (last found : Option (List ℕ)) (number : ℕ) (entry : Entry) (old new : List ℕ) → fields_of old ≡ (fields_of new >>= λ entries. Ok (entry ∷ entries)) → held chunk_of number entry ≡ found
    → read_on last number old ≡ read_on (option_or found last) number new
read_more last found number entry old new h e = rw h (by (fields_of new))
  where
    by : (read : Result (List Entry) Fault) → ((read >>= λ entries. Ok (entry ∷ entries)) >>= λ fields. Ok (unwrap_or (last_or last (chunks number fields)) []))
        ≡ (read >>= λ fields. Ok (unwrap_or (last_or (option_or found last) (chunks number fields)) []))
    by (Ok fields) = rw e (ap (λ o. Ok (unwrap_or o [])) (last_more last found (chunks number fields)))
    by (Err fault) = refl

-- the bytes between two places
pub cut_is : (front chunk rest whole : List ℕ) (start end : ℕ) → whole ≡ front ++ (chunk ++ rest) → start ≡ length front → end ≡ length front + length chunk
    → chunk ≡ take (end - start) (drop start whole)
cut_is front chunk rest whole start end e a b =
    let long : end - start ≡ length chunk = omega arith in
    let tail : drop start whole ≡ chunk ++ rest = ap (λ t. drop start t) e ∙ drop_at front (chunk ++ rest) start (sym a) in
    sym (ap (λ t. take (end - start) t) tail ∙ take_at chunk rest (end - start) (sym long))

-- what stands in a message's end stands in the message
pub further : (message front old middle chunk rest : List ℕ) → message ≡ front ++ old → old ≡ middle ++ (chunk ++ rest)
    → message ≡ (front ++ middle) ++ (chunk ++ rest)
further message front old middle chunk rest whole at =
    rw (whole, at) (sym (append_assoc front middle (chunk ++ rest)))

-- a chunk goes over to what stands in front
pub regrouped : (message front chunk rest : List ℕ) → message ≡ front ++ (chunk ++ rest) → message ≡ (front ++ chunk) ++ rest
regrouped message front chunk rest whole = whole ∙ sym (append_assoc front chunk rest)
