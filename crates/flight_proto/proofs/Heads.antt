-- A message of a stream, as its head and its body.
use Rattle.std.proofs.Common.{◌≡◌, ℕ, ◌==◌, Bool, true, false, not, List, [], ◌∷◌, ◌++◌, length, refl, sym, ap, ◌∙◌, append_assoc, append-nil}
use Rattle.proto_wire.specs.Standard.{Entry}
use Rattle.proto_wire.specs.Calls.{chunk_entry}
use Rattle.proto_wire.proofs.Written.{chunks_follow_heads}
use Rattle.flight_proto.specs.Message.{is_set, set_fields, spelled}
use Rattle.flight_proto.specs.FlightData.{body_head}
use Rattle.flight_proto.specs.Laws.{BodiesFollowHeads}
use Rattle.std.proofs.lemmas.List.Elements.{filter-append}
use Rattle.flight_proto.proofs.Kept.{unset_chunk}
use Rattle.flight_proto.proofs.Writes.{spelled-append}

-- the field of a body is its head and the body
body_field : (body : List ℕ) → spelled (set_fields (chunk_entry 1000 body ∷ [])) ≡ body_head (length body) ++ body
body_field body = by (length body == 0) refl
  where
    by : (empty : Bool) → (length body == 0) ≡ empty → spelled (set_fields (chunk_entry 1000 body ∷ [])) ≡ body_head (length body) ++ body
    by true e = rw e (sym (unset_chunk body (ap not e)))
    by false e = rw e (append-nil _ ∙ chunks_follow_heads 1000 body)

-- the fields of a header and of a body, one after the other
both_fields : (header body : List ℕ) → spelled (set_fields (chunk_entry 2 header ∷ chunk_entry 1000 body ∷ []))
    ≡ spelled (set_fields (chunk_entry 2 header ∷ [])) ++ spelled (set_fields (chunk_entry 1000 body ∷ []))
both_fields header body =
    let apart = filter-append (λ (entry : Entry). is_set entry.content) (chunk_entry 2 header ∷ []) (chunk_entry 1000 body ∷ []) in
    ap spelled apart ∙ spelled-append (set_fields (chunk_entry 2 header ∷ [])) (set_fields (chunk_entry 1000 body ∷ []))

pub bodies_follow_heads : BodiesFollowHeads
bodies_follow_heads carried =
    both_fields carried.data_header carried.data_body
    ∙ ap (λ rest. spelled (set_fields (chunk_entry 2 carried.data_header ∷ [])) ++ rest) (body_field carried.data_body)
    ∙ sym (append_assoc (spelled (set_fields (chunk_entry 2 carried.data_header ∷ []))) (body_head (length carried.data_body)) carried.data_body)
