-- What is written, part by part.
use Rattle.std.proofs.Common.{◌≡◌, ℕ, zero, suc, ◌+◌, ◌<◌, Bool, true, false, cond, List, [], ◌∷◌, ◌++◌, length, take, map, Some, None, negsuc, refl, sym, ap, ◌∙◌, append_assoc, arith}
use Rattle.std.specs.Prelude.{slice_index_or}
use Rattle.std.proofs.lemmas.Grind.{flat_map-append}
use native.Mathlib.Numerals.{unary_clauses}
use Rattle.proto_wire.specs.Standard.{Entry}
use Rattle.proto_wire.specs.Writing.{field_spelling}
use Rattle.proto_wire.specs.Calls.{content_of, entry_of, chunk_entry}
use Rattle.flight_proto.specs.Message.{is_set, set_fields, spelled}
use Rattle.flight_proto.specs.Parts.{entries_of, IsNumbered, AreNumbered}
use Rattle.flight_proto.specs.declared.message_parts.Part.{Part}
use Rattle.flight_proto.specs.declared.message_parts.Part.TheVariants.{Scalar, Embedded}
use Rattle.flight_proto.specs.FlightInfo.{endpoint_field, totals, info_with, info_bytes}

pub spelled-append : (entries others : List Entry) → spelled (entries ++ others) ≡ spelled entries ++ spelled others
spelled-append entries others = flat_map-append field_spelling entries others

pub is_numbered : (parts : List Part) (index : ℕ) (part : Part) → index < length parts → AreNumbered parts → IsNumbered (slice_index_or parts index part)
is_numbered [] index part lt all = absurd (omega arith)
is_numbered (first ∷ parts) zero part lt all = all.0
is_numbered (first ∷ parts) (suc index) part lt all = is_numbered parts index part (omega arith) all.1

first_part : (part : Part) (parts : List Part) → entries_of (part ∷ parts) ≡ entries_of (part ∷ []) ++ entries_of parts
first_part (Scalar field) parts = by (is_set (content_of field.payload))
  where
    by : (set : Bool) → cond set (entry_of field ∷ entries_of parts) (entries_of parts) ≡ cond set (entry_of field ∷ []) [] ++ entries_of parts
    by true = refl
    by false = refl
first_part (Embedded number None) parts = refl
first_part (Embedded number (Some bytes)) parts = refl

so_far : (parts : List Part) (index : ℕ) (part : Part) → index < length parts
    → entries_of (take (index + 1) parts) ≡ entries_of (take index parts) ++ entries_of (slice_index_or parts index part ∷ [])
so_far [] index part lt = absurd (omega arith)
so_far (first ∷ parts) zero part lt = refl
so_far (first ∷ parts) (suc index) part lt =
    let further : take (suc index + 1) (first ∷ parts) ≡ first ∷ take (index + 1) parts = simp unary_clauses refl in
    ap entries_of further
    ∙ first_part first (take (index + 1) parts)
    ∙ ap (λ (rest : List Entry). entries_of (first ∷ []) ++ rest) (so_far parts index part (omega arith))
    ∙ sym (append_assoc (entries_of (first ∷ [])) (entries_of (take index parts)) (entries_of (slice_index_or parts index part ∷ [])))
    ∙ ap (λ (front : List Entry). front ++ entries_of (slice_index_or parts index part ∷ [])) (sym (first_part first (take index parts)))

-- one part more of a list
pub parts_more : (start old new : List ℕ) (parts : List Part) (index : ℕ) (part : Part) → index < length parts
    → old ≡ start ++ spelled (entries_of (take index parts)) → new ≡ old ++ spelled (entries_of (slice_index_or parts index part ∷ []))
    → new ≡ start ++ spelled (entries_of (take (index + 1) parts))
parts_more start old new parts index part lt before e =
    rw (so_far parts index part lt, spelled-append (entries_of (take index parts)) (entries_of (slice_index_or parts index part ∷ [])), ← append_assoc start (spelled (entries_of (take index parts))) (spelled (entries_of (slice_index_or parts index part ∷ []))), ← before) e

-- an info, piece by piece
pub info_pieces : (schema descriptor : List ℕ) (tickets : List (List ℕ)) →
    info_bytes (info_with schema descriptor tickets)
    ≡ spelled (set_fields (chunk_entry 1 schema ∷ []))
    ++ (field_spelling (chunk_entry 2 descriptor) ++ (spelled (map endpoint_field tickets) ++ spelled (totals (negsuc 0) (negsuc 0) true)))
unfolding info_bytes
info_pieces schema descriptor tickets =
    let info = info_with schema descriptor tickets in
    let last = totals (negsuc 0) (negsuc 0) true in
    let endpoints = map (λ endpoint. endpoint_field endpoint.ticket) info.endpoints in
    spelled-append (set_fields (chunk_entry 1 schema ∷ [])) (chunk_entry 2 descriptor ∷ (endpoints ++ last))
    ∙ ap (λ (rest : List ℕ). spelled (set_fields (chunk_entry 1 schema ∷ [])) ++ (field_spelling (chunk_entry 2 descriptor) ++ rest))
    (spelled-append endpoints last ∙ ap (λ (fields : List Entry). spelled fields ++ spelled last) (same tickets))
  where
    same : (tickets : List (List ℕ)) → map (λ endpoint. endpoint_field endpoint.ticket) (info_with schema descriptor tickets).endpoints ≡ map endpoint_field tickets
    same [] = refl
    same (ticket ∷ tickets) = ap (λ (rest : List Entry). endpoint_field ticket ∷ rest) (same tickets)

-- four pieces, one after the other
pub four_pieces : (start p q r s a b c d : List ℕ) → a ≡ start ++ p → b ≡ a ++ q → c ≡ b ++ r → d ≡ c ++ s → d ≡ start ++ (p ++ (q ++ (r ++ s)))
four_pieces start p q r s a b c d ea eb ec ed = rw (ed, ec, eb, ea) (simp append_assoc)
