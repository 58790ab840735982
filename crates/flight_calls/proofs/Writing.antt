-- An answer as it is written.
use Rattle.std.proofs.Common.{◌≡◌, ℕ, ◌+◌, ◌<◌, ◌≤◌, List, [], ◌∷◌, ◌++◌, length, map, take, drop, get_or, sym, ap, subst, ◌∙◌, append_assoc, append-nil}
use Rattle.std.specs.List.{flat_map}
use Rattle.std.specs.Prelude.{Result}
use Rattle.std.proofs.lemmas.Grind.{flat_map-append}
use Rattle.std.proofs.lemmas.List.{map-append, take-append-drop, take_more, drop_more}
use Rattle.std.proofs.lemmas.List.Elements.{All-get_or}
use Rattle.scan_base.specs.declared.fault.Fault.{Fault}
use Rattle.grpc_frame.specs.declared.record.Record.{Record}
use Rattle.grpc_frame.specs.declared.record.Record.TheVariants.{Message}
use Rattle.grpc_frame.specs.Records.{spelling}
use Rattle.grpc_frame.specs.Outgoing.{IsBroken, IsSent, Outgoing, SendsAll}
use Rattle.grpc_frame.proofs.Outgoing.{head_broken, sent_then, broken_then, sends_then}
use Rattle.flight_info.specs.Payloads.{Payload, FitMessages}

-- the bytes of messages, and of an answer

abbrev pub messages_bytes : List Payload → List ℕ
messages_bytes payloads = flat_map spelling (map Message payloads)

abbrev pub answer_bytes : List Payload → Record → List ℕ
answer_bytes payloads status = flat_map spelling (map Message payloads ++ status ∷ [])

-- the messages, and then the status
status_last : (payloads : List Payload) (status : Record) → answer_bytes payloads status ≡ messages_bytes payloads ++ spelling status
status_last payloads status = flat_map-append spelling (map Message payloads) (status ∷ []) ∙ ap (λ l. messages_bytes payloads ++ l) (append-nil (spelling status))

-- one message more
bytes_more : (payloads : List Payload) (payload : Payload) → messages_bytes (payloads ++ payload ∷ []) ≡ messages_bytes payloads ++ spelling (Message payload)
bytes_more payloads payload =
    ap (flat_map spelling) (map-append Message payloads (payload ∷ []))
    ∙ flat_map-append spelling (map Message payloads) (Message payload ∷ [])
    ∙ ap (λ l. messages_bytes payloads ++ l) (append-nil (spelling (Message payload)))

-- the messages before one, that one, and the rest of the answer
record Cut (payloads : List Payload) (status : Record) (i : ℕ) (payload : Payload) : Type 0 where
  rest : List ℕ
  whole : answer_bytes payloads status ≡ messages_bytes (take i payloads) ++ (spelling (Message payload) ++ rest)

cut_at : (payloads : List Payload) (status : Record) (i : ℕ) (payload : Payload) → i < length payloads → payload ≡ get_or payloads i payload → Cut payloads status i payload
cut_at payloads status i payload inside is =
    let behind = flat_map spelling (map Message (drop (i + 1) payloads) ++ status ∷ []) in
    let parts : payloads ≡ take i payloads ++ (payload ∷ drop (i + 1) payloads) =
    sym (take-append-drop i payloads) ∙ ap (λ l. take i payloads ++ l) (drop_more payloads i payload inside ∙ ap (λ (p : Payload). p ∷ drop (i + 1) payloads) (sym is)) in
    let front = map Message (take i payloads) in
    let back = map Message (payload ∷ drop (i + 1) payloads) in
    record {
      rest = behind;
      whole = ap (λ (l : List Payload). answer_bytes l status) parts
          ∙ ap (λ l. flat_map spelling (l ++ status ∷ [])) (map-append Message (take i payloads) (payload ∷ drop (i + 1) payloads))
          ∙ ap (flat_map spelling) (append_assoc front back (status ∷ []))
          ∙ flat_map-append spelling front (back ++ status ∷ []);
    }

-- one message more was sent
pub message_sent : (a b c : Outgoing) (payloads : List Payload) (i : ℕ) (payload : Payload) → i < length payloads → payload ≡ get_or payloads i payload
    → IsSent a b (messages_bytes (take i payloads)) → IsSent b c (spelling (Message payload)) → IsSent a c (messages_bytes (take (i + 1) payloads))
message_sent a b c payloads i payload inside is sent more =
    subst (IsSent a c) (sym bytes) (sent_then a b c (messages_bytes (take i payloads)) (spelling (Message payload)) sent more)
  where
    bytes : messages_bytes (take (i + 1) payloads) ≡ messages_bytes (take i payloads) ++ spelling (Message payload)
    bytes = ap messages_bytes (take_more payloads i payload inside ∙ ap (λ (p : Payload). take i payloads ++ p ∷ []) (sym is)) ∙ bytes_more (take i payloads) payload

-- or not
pub message_not_sent : (a b c : Outgoing) (payloads : List Payload) (status : Record) (i : ℕ) (payload : Payload) → i < length payloads → payload ≡ get_or payloads i payload
    → IsSent a b (messages_bytes (take i payloads)) → IsBroken b c (spelling (Message payload)) → IsBroken a c (answer_bytes payloads status)
message_not_sent a b c payloads status i payload inside is sent failed =
    let at = cut_at payloads status i payload inside is in
    rw at.whole (broken_then a b c (messages_bytes (take i payloads)) (spelling (Message payload) ++ at.rest) sent (head_broken b c (spelling (Message payload)) at.rest failed))

-- the status was sent, or not
pub status_sent : {A : Type 0} (r : Result A Fault) (a b c : Outgoing) (payloads : List Payload) (status : Record)
    → IsSent a b (messages_bytes payloads) → SendsAll r b c (spelling status) → SendsAll r a c (answer_bytes payloads status)
status_sent r a b c payloads status sent last =
    rw (status_last payloads status) (sends_then r a b c (messages_bytes payloads) (spelling status) sent last)

-- each payload fits
pub each_fits : (payloads : List Payload) (i : ℕ) (payload : Payload) → i < length payloads → payload ≡ get_or payloads i payload → FitMessages payloads → length payload ≤ 16777216
unfolding FitMessages
each_fits payloads i payload inside is fits =
    subst (λ (p : Payload). length p ≤ 16777216) (sym is) (All-get_or (λ (p : Payload). length p ≤ 16777216) payloads i payload inside fits)

-- ---- one message, and the status

pub one_sent : {A : Type 0} (r : Result A Fault) (a b c : Outgoing) (payload : Payload) (status : Record)
    → IsSent a b (spelling (Message payload)) → SendsAll r b c (spelling status) → SendsAll r a c (answer_bytes (payload ∷ []) status)
one_sent r a b c payload status sent last =
    status_sent r a b c (payload ∷ []) status (subst (IsSent a b) (sym (append-nil (spelling (Message payload)))) sent) last

pub one_not_sent : (a b : Outgoing) (payload : Payload) (status : Record)
    → IsBroken a b (spelling (Message payload)) → IsBroken a b (answer_bytes (payload ∷ []) status)
one_not_sent a b payload status failed = head_broken a b (spelling (Message payload)) (spelling status ++ []) failed

-- ---- parcels

-- the payloads of a parcel before one, that one, and the rest
record CutParcel (parcel : List Payload) (i : ℕ) (payload : Payload) : Type 0 where
  rest : List ℕ
  whole : messages_bytes parcel ≡ messages_bytes (take i parcel) ++ (spelling (Message payload) ++ rest)

cut_parcel : (parcel : List Payload) (i : ℕ) (payload : Payload) → i < length parcel → payload ≡ get_or parcel i payload → CutParcel parcel i payload
cut_parcel parcel i payload inside is =
    let parts : parcel ≡ take i parcel ++ (payload ∷ drop (i + 1) parcel) =
    sym (take-append-drop i parcel) ∙ ap (λ l. take i parcel ++ l) (drop_more parcel i payload inside ∙ ap (λ (p : Payload). p ∷ drop (i + 1) parcel) (sym is)) in
    record {
      rest = messages_bytes (drop (i + 1) parcel);
      whole = ap messages_bytes parts ∙ ap (flat_map spelling) (map-append Message (take i parcel) (payload ∷ drop (i + 1) parcel))
          ∙ flat_map-append spelling (map Message (take i parcel)) (map Message (payload ∷ drop (i + 1) parcel));
    }

-- one of them was not sent
pub parcel_stopped : (a b c : Outgoing) (parcel : List Payload) (i : ℕ) (payload : Payload) → i < length parcel → payload ≡ get_or parcel i payload
    → IsSent a b (messages_bytes (take i parcel)) → IsBroken b c (spelling (Message payload)) → IsBroken a c (messages_bytes parcel)
parcel_stopped a b c parcel i payload inside is sent failed =
    let at = cut_parcel parcel i payload inside is in
    rw at.whole (broken_then a b c (messages_bytes (take i parcel)) (spelling (Message payload) ++ at.rest) sent (head_broken b c (spelling (Message payload)) at.rest failed))

bytes_all : (payloads parcel : List Payload) → messages_bytes (payloads ++ parcel) ≡ messages_bytes payloads ++ messages_bytes parcel
bytes_all payloads parcel = ap (flat_map spelling) (map-append Message payloads parcel) ∙ flat_map-append spelling (map Message payloads) (map Message parcel)

-- one parcel more was sent
pub parcel_sent : (a b c : Outgoing) (payloads parcel : List Payload)
    → IsSent a b (messages_bytes payloads) → IsSent b c (messages_bytes parcel) → IsSent a c (messages_bytes (payloads ++ parcel))
parcel_sent a b c payloads parcel sent more =
    subst (IsSent a c) (sym (bytes_all payloads parcel)) (sent_then a b c (messages_bytes payloads) (messages_bytes parcel) sent more)

-- or not
pub parcel_not_sent : (a b c : Outgoing) (payloads parcel : List Payload) (status : Record)
    → IsSent a b (messages_bytes payloads) → IsBroken b c (messages_bytes parcel) → IsBroken a c (answer_bytes (payloads ++ parcel) status)
parcel_not_sent a b c payloads parcel status sent failed =
    rw (status_last (payloads ++ parcel) status, bytes_all payloads parcel, append_assoc (messages_bytes payloads) (messages_bytes parcel) (spelling status))
    (broken_then a b c (messages_bytes payloads) (messages_bytes parcel ++ spelling status) sent (head_broken b c (messages_bytes parcel) (spelling status) failed))

-- ---- a stream

-- nothing more was sent
pub nothing_sent : (a b c : Outgoing) (payloads : List Payload)
    → IsSent a b (messages_bytes payloads) → IsSent b c [] → IsSent a c (messages_bytes payloads)
nothing_sent a b c payloads sent none =
    subst (IsSent a c) (append-nil (messages_bytes payloads)) (sent_then a b c (messages_bytes payloads) [] sent none)

-- or it could not be
pub nothing_not_sent : (a b c : Outgoing) (payloads : List Payload) (status : Record)
    → IsSent a b (messages_bytes payloads) → IsBroken b c [] → IsBroken a c (answer_bytes payloads status)
nothing_not_sent a b c payloads status sent failed =
    rw (status_last payloads status) (broken_then a b c (messages_bytes payloads) (spelling status) sent (head_broken b c [] (spelling status) failed))

-- the rest of an answer after these payloads
rest_behind : (payloads more : List Payload) (status : Record) → answer_bytes (payloads ++ more) status ≡ messages_bytes payloads ++ answer_bytes more status
rest_behind payloads more status =
    ap (λ (l : List Record). flat_map spelling (l ++ status ∷ [])) (map-append Message payloads more)
    ∙ ap (flat_map spelling) (append_assoc (map Message payloads) (map Message more) (status ∷ []))
    ∙ flat_map-append spelling (map Message payloads) (map Message more ++ status ∷ [])

-- it was sent, or not
pub rest_sent : {A : Type 0} (r : Result A Fault) (a b c : Outgoing) (payloads more : List Payload) (status : Record)
    → IsSent a b (messages_bytes payloads) → SendsAll r b c (answer_bytes more status) → SendsAll r a c (answer_bytes (payloads ++ more) status)
rest_sent r a b c payloads more status sent last =
    rw (rest_behind payloads more status) (sends_then r a b c (messages_bytes payloads) (answer_bytes more status) sent last)
