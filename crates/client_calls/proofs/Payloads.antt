-- The messages of a put.
use Rattle.std.proofs.Common.{◌≡◌, ℕ, ◌+◌, ◌<◌, List, [], ◌∷◌, ◌++◌, length, map, take, drop, get_or, Some, None, refl, sym, ap, ◌∙◌, append_assoc, append-nil}
use Rattle.std.proofs.lemmas.List.{map-append, take_more}
use Rattle.proto_wire.specs.Writing.{field_spelling}
use Rattle.proto_wire.specs.Calls.{chunk_entry}
use Rattle.flight_proto.specs.FlightData.{DataSaid, data_bytes, data_head}
use Rattle.flight_proto.specs.FlightDescriptor.{DescriptorSaid, descriptor_bytes}
use Rattle.flight_proto.specs.Message.{set_fields, spelled}
use Rattle.flight_proto.proofs.Heads.{bodies_follow_heads}
use Rattle.flight_info.specs.Payloads.{Payload}
use Rattle.ipc_stream.specs.declared.message.IpcMessage.{IpcMessage}
use Rattle.client_calls.specs.declared.put_call.Target.{Target}
use Rattle.client_calls.specs.Commands.{put_descriptor, put_payloads, carried_in}
use Rattle.client_calls.specs.inside.Heads.{first_payload}

-- a head and the body after it
pub head_and_body : (front head header body : List ℕ) → head ≡ front ++ data_head header (length body)
    → head ++ body ≡ front ++ data_bytes None (record { data_header = header; data_body = body })
head_and_body front head header body is =
    ap (λ (l : List ℕ). l ++ body) is
    ∙ append_assoc front (data_head header (length body)) body
    ∙ ap (λ (l : List ℕ). front ++ l) (sym (bodies_follow_heads (record { data_header = header; data_body = body })))

-- a descriptor, and what is carried after it
behind_descriptor : (descriptor : DescriptorSaid) (carried : DataSaid)
    → data_bytes (Some descriptor) (record { data_header = []; data_body = [] }) ++ data_bytes None carried ≡ data_bytes (Some descriptor) carried
behind_descriptor descriptor carried =
    ap (λ (l : List ℕ). l ++ spelled (set_fields (chunk_entry 2 carried.data_header ∷ chunk_entry 1000 carried.data_body ∷ [])))
    (append-nil (field_spelling (chunk_entry 1 (descriptor_bytes descriptor))))

-- the messages of the stream after the first
abbrev pub later_payloads : List IpcMessage → List Payload
later_payloads messages = map (λ message. data_bytes None (carried_in message)) messages

-- one message more
pub one_more : (start old new : List Payload) (messages : List IpcMessage) (i : ℕ) (message : IpcMessage) (payload : Payload) → i < length messages → message ≡ get_or messages i message
    → payload ≡ data_bytes None (carried_in message) → old ≡ start ++ later_payloads (take i messages) → new ≡ old ++ payload ∷ [] → new ≡ start ++ later_payloads (take (i + 1) messages)
one_more start old new messages i message payload inside is said before after =
    after ∙ ap (λ (l : List Payload). l ++ payload ∷ []) before ∙ append_assoc start (later_payloads (take i messages)) (payload ∷ []) ∙ ap (λ (l : List Payload). start ++ l) step
  where
    step : later_payloads (take i messages) ++ payload ∷ [] ≡ later_payloads (take (i + 1) messages)
    step = ap (λ (p : Payload). later_payloads (take i messages) ++ p ∷ []) said
        ∙ sym (map-append (λ (m : IpcMessage). data_bytes None (carried_in m)) (take i messages) (message ∷ []))
        ∙ ap later_payloads (sym (take_more messages i message inside ∙ ap (λ (m : IpcMessage). take i messages ++ m ∷ []) (sym is)))

-- the first, and then the others
pub first_and_others : (target : Target) (messages : List IpcMessage) → first_payload target messages ∷ later_payloads (drop 1 messages) ≡ put_payloads target messages
first_and_others target [] = refl
first_and_others target (first ∷ others) = ap (λ (l : Payload). l ∷ later_payloads others) (behind_descriptor (put_descriptor target) (carried_in first))
