-- A call as it is sent.
use Rattle.std.proofs.Common.{◌≡◌, ℕ, ◌+◌, ◌<◌, ◌≤◌, List, [], ◌∷◌, ◌++◌, length, map, take, drop, get_or, Option, Ok, Err, inl, arith, sym, ap, subst, ◌∙◌, append_assoc, append-nil}
use Rattle.std.specs.Prelude.{Result}
use Rattle.std.specs.List.{flat_map}
use Rattle.std.proofs.lemmas.Grind.{flat_map-append}
use Rattle.std.proofs.lemmas.List.{map-append, take-append-drop, take_more, drop_more}
use Rattle.std.proofs.lemmas.List.Elements.{All-append, All-cons, All-nil, All-get_or}
use Rattle.scan_base.specs.declared.fault.Fault.{Fault}
use Rattle.scan_base.specs.Limits.{most_message_bytes}
use Rattle.grpc_frame.specs.declared.record.Record.TheVariants.{Open, Message, End}
use Rattle.grpc_frame.specs.Records.{spelling, message_head}
use Rattle.grpc_frame.specs.Sending.{Sent, NotSent, Sends}
use Rattle.grpc_frame.specs.Ends.{CountsFailure, FailsByTransport, Writes}
use Rattle.grpc_frame.proofs.Sending.{head_not_sent, both_sent, second_not_sent, sent_behind, flushed}
use Rattle.flight_info.specs.Payloads.{Payload}
use Rattle.client_calls.specs.declared.call.Method.{Method}
use Rattle.client_calls.specs.Calls.{path_of, call_bytes, Fit}
use Rattle.client_calls.specs.inside.Parts.{WritesCall, outgoing_of}

-- ---- a message

-- its head was not sent
pub head_failed : (a b : Option (List ℕ)) (before after payload : List ℕ) (len : ℕ) → len ≡ length payload → NotSent a b before after (message_head len) → NotSent a b before after (spelling (Message payload))
head_failed a b before after payload len long failed =
    subst (λ (n : ℕ). NotSent a b before after (message_head n ++ payload)) long (head_not_sent a b before after (message_head len) payload failed)

-- it was, and then its parts were, or not
pub parts_sent : {A E : Type 0} (r : Result A E) (a b c : Option (List ℕ)) (before mid after head body payload : List ℕ) (len : ℕ) → len ≡ length payload → head ++ body ≡ payload
    → Sent a b before mid (message_head len) → Sends r b c mid after (head ++ body) → Sends r a c before after (spelling (Message payload))
parts_sent r a b c before mid after head body payload len long is front behind =
    sent_behind r a b c before mid after (message_head (length payload)) payload
    (subst (λ (n : ℕ). Sent a b before mid (message_head n)) long front)
    (subst (λ (l : List ℕ). Sends r b c mid after l) is behind)

-- ---- a call

-- the bytes of messages
abbrev pub messages_bytes : List Payload → List ℕ
messages_bytes messages = flat_map spelling (map Message messages)

-- the Open, and these messages after it
abbrev pub front_bytes : Method → List Payload → List ℕ
front_bytes method messages = spelling (Open (path_of method)) ++ messages_bytes messages

pub bytes_more : (messages : List Payload) (message : Payload) → messages_bytes (messages ++ message ∷ []) ≡ messages_bytes messages ++ spelling (Message message)
bytes_more messages message =
    ap (flat_map spelling) (map-append Message messages (message ∷ []))
    ∙ flat_map-append spelling (map Message messages) (Message message ∷ [])
    ∙ ap (λ l. messages_bytes messages ++ l) (append-nil (spelling (Message message)))

-- a call is what stands before its End, and that
pub end_last : (method : Method) (messages : List Payload) → call_bytes method messages ≡ front_bytes method messages ++ spelling End
end_last method messages =
    let opening = spelling (Open (path_of method)) in
    ap (λ l. opening ++ l) (flat_map-append spelling (map Message messages) (End ∷ []) ∙ ap (λ l. messages_bytes messages ++ l) (append-nil (spelling End)))
    ∙ sym (append_assoc opening (messages_bytes messages) (spelling End))

-- the Open was not sent
pub open_not_sent : (a b : Option (List ℕ)) (before after : List ℕ) (method : Method) (messages : List Payload) → NotSent a b before after (spelling (Open (path_of method))) → NotSent a b before after (call_bytes method messages)
open_not_sent a b before after method messages failed =
    head_not_sent a b before after (spelling (Open (path_of method))) (flat_map spelling (map Message messages ++ End ∷ [])) failed

-- it was
pub open_sent : (a b : Option (List ℕ)) (before after : List ℕ) (method : Method) → Sent a b before after (spelling (Open (path_of method))) → Sent a b before after (front_bytes method [])
open_sent a b before after method sent = subst (Sent a b before after) (sym (append-nil (spelling (Open (path_of method))))) sent

-- one message more was sent
pub message_sent : (a b c : Option (List ℕ)) (before mid after : List ℕ) (method : Method) (messages : List Payload) (i : ℕ) (message : Payload) → i < length messages → message ≡ get_or messages i message
    → Sent a b before mid (front_bytes method (take i messages)) → Sent b c mid after (spelling (Message message)) → Sent a c before after (front_bytes method (take (i + 1) messages))
message_sent a b c before mid after method messages i message inside is sent more =
    subst (Sent a c before after) (sym bytes) (both_sent a b c before mid after (front_bytes method (take i messages)) (spelling (Message message)) sent more)
  where
    bytes : front_bytes method (take (i + 1) messages) ≡ front_bytes method (take i messages) ++ spelling (Message message)
    bytes = ap (front_bytes method) (take_more messages i message inside ∙ ap (λ (m : Payload). take i messages ++ m ∷ []) (sym is))
        ∙ ap (λ l. spelling (Open (path_of method)) ++ l) (bytes_more (take i messages) message)
        ∙ sym (append_assoc (spelling (Open (path_of method))) (messages_bytes (take i messages)) (spelling (Message message)))

-- what stands after a message
abbrev behind_bytes : List Payload → ℕ → List ℕ
behind_bytes messages i = flat_map spelling (map Message (drop (i + 1) messages) ++ End ∷ [])

-- or not
pub message_not_sent : (a b c : Option (List ℕ)) (before mid after : List ℕ) (method : Method) (messages : List Payload) (i : ℕ) (message : Payload) → i < length messages → message ≡ get_or messages i message
    → Sent a b before mid (front_bytes method (take i messages)) → NotSent b c mid after (spelling (Message message)) → NotSent a c before after (call_bytes method messages)
message_not_sent a b c before mid after method messages i message inside is sent failed =
    subst (NotSent a c before after) (sym whole)
    (second_not_sent a b c before mid after (front_bytes method (take i messages)) (spelling (Message message) ++ behind_bytes messages i) sent
    (head_not_sent b c mid after (spelling (Message message)) (behind_bytes messages i) failed))
  where
    parts : messages ≡ take i messages ++ (message ∷ drop (i + 1) messages)
    parts = sym (take-append-drop i messages) ∙ ap (λ l. take i messages ++ l) (drop_more messages i message inside ∙ ap (λ (m : Payload). m ∷ drop (i + 1) messages) (sym is))

    records : map Message messages ++ End ∷ [] ≡ map Message (take i messages) ++ (map Message (message ∷ drop (i + 1) messages) ++ End ∷ [])
    records = ap (λ (l : List Payload). map Message l ++ End ∷ []) parts
        ∙ ap (λ l. l ++ End ∷ []) (map-append Message (take i messages) (message ∷ drop (i + 1) messages))
        ∙ append_assoc (map Message (take i messages)) (map Message (message ∷ drop (i + 1) messages)) (End ∷ [])

    whole : call_bytes method messages ≡ front_bytes method (take i messages) ++ (spelling (Message message) ++ behind_bytes messages i)
    whole = ap (λ l. spelling (Open (path_of method)) ++ flat_map spelling l) records
        ∙ ap (λ l. spelling (Open (path_of method)) ++ l) (flat_map-append spelling (map Message (take i messages)) (map Message (message ∷ drop (i + 1) messages) ++ End ∷ []))
        ∙ sym (append_assoc (spelling (Open (path_of method))) (messages_bytes (take i messages)) (spelling (Message message) ++ behind_bytes messages i))

-- the End was sent, or not
pub end_sent : {A E : Type 0} (r : Result A E) (a b c : Option (List ℕ)) (before mid after : List ℕ) (method : Method) (messages : List Payload)
    → Sent a b before mid (front_bytes method messages) → Sends r b c mid after (spelling End) → Sends r a c before after (call_bytes method messages)
end_sent r a b c before mid after method messages sent last =
    rw (end_last method messages) (sent_behind r a b c before mid after (front_bytes method messages) (spelling End) sent last)

-- ---- and as it is written

-- all was sent, and then what was gathered was written, or not
pub sent_written : (r : Result (Unit {0}) Fault) (a b c : Option (List ℕ)) (x y z : ℕ) (before mid : List ℕ) (method : Method) (messages : List Payload) → Fit messages → before ≡ [] → Sent a b before mid (call_bytes method messages) → y ≡ x
    → Writes r b c mid → CountsFailure r y z → FailsByTransport r → WritesCall r method messages (outgoing_of a x) (outgoing_of c z)
sent_written (Ok tt) a b c x y z before mid method messages fit none sent same wrote counted kind =
    record { fit = fit; wrote = flushed {A = Unit {0}} {E = Fault} (Ok tt) a b c before mid (call_bytes method messages) none sent wrote; quiet = counted ∙ same }
sent_written (Err fault) a b c x y z before mid method messages fit none sent same wrote counted kind =
    inl (kind, record { fit = fit; wrote = flushed {A = Unit {0}} {E = Fault} (Err fault) a b c before mid (call_bytes method messages) none sent wrote; counted = rw same at counted })

-- ---- messages that fit

-- one more
pub one_fits : (messages : List Payload) (i : ℕ) (message : Payload) → i < length messages → message ≡ get_or messages i message → length message ≤ 16777216 → Fit (take i messages) → Fit (take (i + 1) messages)
one_fits messages i message inside is short fit =
    subst Fit (sym (take_more messages i message inside ∙ ap (λ (m : Payload). take i messages ++ m ∷ []) (sym is)))
    (All-append (λ (m : Payload). length m ≤ most_message_bytes) (take i messages) (message ∷ []) fit (All-cons (λ (m : Payload). length m ≤ most_message_bytes) message [] short (All-nil (λ (m : Payload). length m ≤ most_message_bytes))))

-- each does
pub each_fits : (messages : List Payload) (i : ℕ) (message : Payload) → i < length messages → message ≡ get_or messages i message → Fit messages → length message ≤ 16777216
each_fits messages i message inside is fit =
    subst (λ (m : Payload). length m ≤ 16777216) (sym is) (All-get_or (λ (m : Payload). length m ≤ 16777216) messages i message inside fit)

-- one does not
pub not_fits : (messages : List Payload) (i : ℕ) (message : Payload) → i < length messages → message ≡ get_or messages i message → 16777216 < length message → ¬ Fit messages
not_fits messages i message inside is long fit = let short = each_fits messages i message inside is fit in omega (arith, long, short)
