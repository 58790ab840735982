-- A put that is sent message by message.
use Rattle.std.proofs.Common.{◌≡◌, ◌⊎◌, ℕ, ◌+◌, ◌<◌, ◌≤◌, List, [], ◌∷◌, ◌++◌, length, Option, Some, None, Ok, Err, inl, inr, arith, refl, sym, ap, subst, ◌∙◌, append_assoc, append-nil}
use Rattle.std.specs.Prelude.{Result}
use Rattle.std.specs.Io.KnownBytes.{Appends}
use Rattle.std.proofs.KnownBytes.{Appends-nil}
use Rattle.std.proofs.lemmas.List.{get_or_push, length-append}
use Rattle.std.proofs.lemmas.List.Elements.{All-append, All-cons, All-nil}
use Rattle.scan_base.specs.declared.fault.Fault.{Fault}
use Rattle.scan_base.specs.declared.fault.Fault.TheVariants.{MessageTooLarge, OutOfMemory, Transport}
use Rattle.scan_base.specs.Limits.{most_message_bytes}
use Rattle.grpc_frame.specs.declared.record.Record.TheVariants.{Open, Message, End}
use Rattle.grpc_frame.specs.Ends.{AppendsBeginning, Tape, Writes}
use Rattle.grpc_frame.specs.Records.{Received, spelling}
use Rattle.grpc_frame.specs.Sending.{Sent, NotSent}
use Rattle.grpc_frame.proofs.Sending.{begun_alone, both_sent, second_not_sent, flushed}
use Rattle.flight_info.specs.Payloads.{Payload}
use Rattle.client_calls.specs.declared.call.Method.TheVariants.{DoPut}
use Rattle.client_calls.specs.declared.failure.Failure.TheVariants.{Found}
use Rattle.client_calls.specs.Answers.{Incoming, Stop, stopped_at}
use Rattle.client_calls.specs.Calls.{path_of, Fit}
use Rattle.client_calls.specs.Outcome.{Line, Outgoing, left_of, stopped_by}
use Rattle.client_calls.specs.Sending.{FailsPut, IsPutWriter, PutAt, put_at, unended_bytes}
use Rattle.client_calls.specs.inside.Parts.{HasStopped, IsOpen, IsUnmade, SendsCall, SendsPart, StopsAt, incoming_of, line_of, outgoing_of}
use Rattle.client_calls.proofs.Calling.{is_none}
use Rattle.client_calls.proofs.Sending.{bytes_more, end_last}

-- ---- a part of a call

-- the Open and the first message were sent, or not
pub end_written : {A E : Type 0} (r : Result A E) (a b c d : Option (List ℕ)) (mid last bytes : List ℕ) → Sent a b [] mid bytes → Sent b c mid last (spelling End) → Writes r c d last → Writes r a d (bytes ++ spelling End)
end_written r a b c d mid last bytes sent more wrote = flushed r a c d [] last (bytes ++ spelling End) refl (both_sent a b c [] mid last bytes (spelling End) sent more) wrote

pub end_not_sent : (a b c : Option (List ℕ)) (mid after bytes : List ℕ) → Sent a b [] mid bytes → NotSent b c mid after (spelling End) → AppendsBeginning a c (bytes ++ spelling End)
end_not_sent a b c mid after bytes sent failed = begun_alone a c [] after (bytes ++ spelling End) refl (second_not_sent a b c [] mid after bytes (spelling End) sent failed)

module _ (a : Tape) (x : ℕ) (left : Received) (b c : Option (List ℕ)) (y z : ℕ) (bytes before after : List ℕ) (line : Line) where
  pub part_sent : (stopped : Option Fault) → line_of a x stopped left (outgoing_of b y) ≡ line → Sent b c before after bytes → z ≡ y
      → SendsPart (Ok tt) bytes line (line_of a x stopped left (outgoing_of c z)) before after
  part_sent stopped is sent same =
      subst (λ (l : Line). SendsPart (Ok tt) bytes l (line_of a x stopped left (outgoing_of c z)) before after) is (sent, same, refl)

  pub part_not_sent : (stopped : Option Fault) (fault : Fault) → line_of a x stopped left (outgoing_of b y) ≡ line → IsOpen line → NotSent b c before after bytes → z ≡ y + 1 → fault ≡ Transport
      → SendsPart (Err fault) bytes line (line_of a x (Some fault) left (outgoing_of c z)) before after
  part_not_sent stopped fault is is_open failed counted kind =
      subst (λ (l : Line). SendsPart (Err fault) bytes l (line_of a x (Some fault) left (outgoing_of c z)) before after)
      (ap (λ (s : Option Fault). line_of a x s left (outgoing_of b y)) (sym (is_none a x stopped left (outgoing_of b y) line is is_open)) ∙ is)
      (kind, failed, counted, ap (λ (f : Fault). incoming_of a x (stopped_at f left)) kind)

-- a connection was stopped
pub has_stopped : (a : Tape) (x : ℕ) (stopped : Option Fault) (left : Received) (out : Outgoing) (line : Line) (fault : Fault)
    → line_of a x stopped left out ≡ line → IsOpen line → StopsAt fault line (line_of a x (Some fault) left out)
has_stopped a x stopped left out line fault is is_open =
    subst (λ (l : Line). StopsAt fault l (line_of a x (Some fault) left out))
    (ap (λ (s : Option Fault). line_of a x s left out) (sym (is_none a x stopped left out line is is_open)) ∙ is)
    (refl, refl)

-- ---- a put that is sent so far

-- its connection is open
pub is_open : (messages : List Payload) (begun : Line) (now : PutAt) → IsPutWriter messages begun now → IsOpen now.line
is_open messages begun now putting = (putting.left, ap (λ (i : Incoming). i.left) putting.unread ∙ putting.is_open)

pub was_open : (messages : List Payload) (begun : Line) (now : PutAt) → IsPutWriter messages begun now → IsOpen begun
was_open messages begun now putting = (putting.left, putting.is_open)

pub not_stopped : (messages : List Payload) (begun : Line) (now : PutAt) (fault : Fault) → IsPutWriter messages begun now → HasStopped fault now.line → ⊥
not_stopped messages begun now fault putting (at, is) =
    let e : Ok putting.left ≡ stopped_at fault at = sym putting.is_open ∙ ap (λ (i : Incoming). i.left) (sym putting.unread) ∙ is in absurd cc

-- one message more
more_bytes : (messages : List Payload) (message : Payload) → unended_bytes (messages ++ message ∷ []) ≡ unended_bytes messages ++ spelling (Message message)
more_bytes messages message =
    ap (λ l. spelling (Open (path_of DoPut)) ++ l) (bytes_more messages message)
    ∙ sym (append_assoc (spelling (Open (path_of DoPut))) _ (spelling (Message message)))

fits_more : (messages : List Payload) (message : Payload) → Fit messages → length message ≤ 16777216 → Fit (messages ++ message ∷ [])
fits_more messages message fit short =
    let Short : Payload → Type 0 = λ m. length m ≤ most_message_bytes in
    All-append Short messages (message ∷ []) fit (All-cons Short message [] short (All-nil Short))

-- it does not fit, and so not all do
unfit_more : (messages : List Payload) (message : Payload) → ¬ Fit (message ∷ []) → ¬ Fit (messages ++ message ∷ [])
unfit_more messages message unfit fit =
    let Short : Payload → Type 0 = λ m. length m ≤ most_message_bytes in
    let low : length messages < length (messages ++ message ∷ []) = omega (arith, length-append messages (message ∷ [])) in
    let short : Short message = subst Short (get_or_push messages message message (length messages) refl) (fit (length messages) message low) in
    unfit (All-cons Short message [] short (All-nil Short))

module _ (messages : List Payload) (begun : Line) (now : PutAt) (putting : IsPutWriter messages begun now) (message : Payload) (new : Line) (waiting : List ℕ) where
  pub sent_more : (made : Payload) → made ≡ message → length made ≤ 16777216 → SendsPart (Ok tt) (spelling (Message made)) now.line new now.waiting waiting
      → IsPutWriter (messages ++ message ∷ []) begun (put_at new waiting)
  sent_more made is short sends =
      let sent = subst (λ (m : Payload). SendsPart (Ok tt) (spelling (Message m)) now.line new now.waiting waiting) is sends in
      record {
        left = putting.left;
        is_open = putting.is_open;
        fit = fits_more messages message putting.fit (subst (λ (m : Payload). length m ≤ 16777216) is short);
        sent = subst (Sent begun.outgoing.output new.outgoing.output [] waiting) (sym (more_bytes messages message))
            (both_sent _ _ _ [] now.waiting waiting (unended_bytes messages) (spelling (Message message)) putting.sent sent.0);
        quiet = sent.1 ∙ putting.quiet;
        unread = sent.2 ∙ putting.unread;
      }

  pub not_sent_more : (made : Payload) → made ≡ message → (fault : Fault) → SendsPart (Err fault) (spelling (Message made)) now.line new now.waiting waiting
      → FailsPut (Found fault) (messages ++ message ∷ []) begun new
  not_sent_more made is fault fails =
      let failed = subst (λ (m : Payload). SendsPart (Err fault) (spelling (Message m)) now.line new now.waiting waiting) is fails in (
        fault,
        refl,
        inl (failed.0, failed.2 ∙ ap (λ (n : ℕ). n + 1) putting.quiet),
        record {
          wrote = subst (AppendsBeginning begun.outgoing.output new.outgoing.output) (sym (more_bytes messages message))
              (begun_alone _ _ [] waiting _ refl (second_not_sent _ _ _ [] now.waiting waiting (unended_bytes messages) (spelling (Message message)) putting.sent failed.1));
          stopped = failed.3 ∙ ap (λ (i : Incoming). record i { left = stopped_by Transport i.left }) putting.unread
              ∙ ap (λ (f : Fault). record begun.incoming { left = stopped_by f begun.incoming.left }) (sym failed.0);
        },
      )

  pub not_made_more : (fault : Fault) → IsUnmade fault (message ∷ []) → StopsAt fault now.line new → FailsPut (Found fault) (messages ++ message ∷ []) begun new
  not_made_more fault why stops = (
    fault,
    refl,
    inr (cause why, ap (λ (o : Outgoing). o.failed) stops.0 ∙ putting.quiet),
    record {
      wrote = record {
        front = putting.sent.written;
        rest = now.waiting ++ spelling (Message message);
        splits = more_bytes messages message ∙ ap (λ (l : List ℕ). l ++ spelling (Message message)) (sym putting.sent.whole)
            ∙ append_assoc putting.sent.written now.waiting (spelling (Message message));
        wrote = subst (λ (o : Outgoing). Appends begun.outgoing.output o.output putting.sent.written) (sym stops.0) putting.sent.wrote;
      };
      stopped = stops.1 ∙ ap (λ (i : Incoming). record i { left = stopped_by fault i.left }) putting.unread;
    },
  )
    where
      cause : IsUnmade fault (message ∷ [])
          → ((fault ≡ MessageTooLarge) × ¬ Fit (messages ++ message ∷ [])) ⊎ ((fault ≡ OutOfMemory) ⊎ ((stop : Stop) × (begun.incoming.left ≡ Err stop) × (fault ≡ stop.fault)))
      cause (inl (is, unfit)) = inl (is, unfit_more messages message unfit)
      cause (inr memory) = inr (inl memory)

-- ---- its beginning

module _ (old new : Line) (first : Payload) (messages : List Payload) (one : first ∷ [] ≡ messages) where
  abbrev pub opening : List ℕ
  opening = spelling (Open (path_of DoPut)) ++ spelling (Message first)

  first_bytes : opening ≡ unended_bytes messages
  first_bytes = ap (λ l. spelling (Open (path_of DoPut)) ++ l) (sym (append-nil (spelling (Message first)))) ∙ ap unended_bytes one

  pub begun_first : (before waiting : List ℕ) → before ≡ [] → IsOpen old → length first ≤ 16777216 → SendsPart (Ok tt) opening old new before waiting → IsPutWriter messages old (put_at new waiting)
  begun_first before waiting none (left, opened) short sent =
      let Short : Payload → Type 0 = λ m. length m ≤ most_message_bytes in
      record {
        left = left;
        is_open = opened;
        fit = subst Fit one (All-cons Short first [] short (All-nil Short));
        sent = subst (λ (l : List ℕ). Sent old.outgoing.output new.outgoing.output l waiting (unended_bytes messages)) none
            (subst (Sent old.outgoing.output new.outgoing.output before waiting) first_bytes sent.0);
        quiet = sent.1;
        unread = sent.2;
      }

  pub not_begun_first : (before waiting : List ℕ) (fault : Fault) → before ≡ [] → SendsPart (Err fault) opening old new before waiting → FailsPut (Found fault) messages old new
  not_begun_first before waiting fault none failed = (
    fault,
    refl,
    inl (failed.0, failed.2),
    record {
      wrote = subst (AppendsBeginning old.outgoing.output new.outgoing.output) first_bytes (begun_alone _ _ before waiting opening none failed.1);
      stopped = failed.3 ∙ ap (λ (f : Fault). record old.incoming { left = stopped_by f old.incoming.left }) (sym failed.0);
    },
  )

-- nothing of it is written
module _ (old new : Line) (messages : List Payload) (fault : Fault) where
  nothing_written : new.outgoing ≡ old.outgoing → AppendsBeginning old.outgoing.output new.outgoing.output (unended_bytes messages)
  nothing_written same =
      subst (λ (o : Outgoing). AppendsBeginning old.outgoing.output o.output (unended_bytes messages)) (sym same)
      (record { front = []; rest = unended_bytes messages; splits = refl; wrote = Appends-nil old.outgoing.output })

  pub unmade_first : IsUnmade fault messages → StopsAt fault old new → FailsPut (Found fault) messages old new
  unmade_first why stops = (
    fault,
    refl,
    inr (cause why, ap (λ (o : Outgoing). o.failed) stops.0),
    record { wrote = nothing_written stops.0; stopped = stops.1 },
  )
    where
      cause : IsUnmade fault messages
          → ((fault ≡ MessageTooLarge) × ¬ Fit messages) ⊎ ((fault ≡ OutOfMemory) ⊎ ((stop : Stop) × (old.incoming.left ≡ Err stop) × (fault ≡ stop.fault)))
      cause (inl unfit) = inl unfit
      cause (inr memory) = inr (inl memory)

pub stopped_first : (old : Line) (messages : List Payload) (fault : Fault) → HasStopped fault old → FailsPut (Found fault) messages old old
stopped_first old messages fault (at, is) = (
  fault,
  refl,
  inr (inr (inr (record { fault = fault; at = at }, is, refl)), refl),
  record {
    wrote = nothing_written old old messages fault refl;
    stopped = ap (λ (l : Result Received Stop). record old.incoming { left = l }) (is ∙ sym (ap (stopped_by fault) is));
  },
)

-- ---- its end

pub start : (messages : List Payload) (begun : Line) (a : Tape) (x : ℕ) (left : Received) (b : Option (List ℕ)) (y : ℕ) (before : List ℕ) (line : Line) (stopped : Option Fault)
    → IsPutWriter messages begun (put_at line before) → line_of a x stopped left (outgoing_of b y) ≡ line → Sent begun.outgoing.output b [] before (unended_bytes messages)
start messages begun a x left b y before line stopped putting is =
    subst (λ (l : Line). Sent begun.outgoing.output l.outgoing.output [] before (unended_bytes messages)) (sym is) putting.sent

module _ (messages : List Payload) (begun : Line) (a : Tape) (x : ℕ) (left : Received) (b c : Option (List ℕ)) (y z : ℕ) (before : List ℕ) (line : Line)
    (putting : IsPutWriter messages begun (put_at line before)) (stopped : Option Fault) (is : line_of a x stopped left (outgoing_of b y) ≡ line) where
  pub ended : Writes {A = Unit {0}} {E = Fault} (Ok tt) begun.outgoing.output c (unended_bytes messages ++ spelling End) → z ≡ y
      → SendsCall (Ok tt) DoPut messages begun (line_of a x stopped left (outgoing_of c z))
  ended wrote same = (
    record {
      fit = putting.fit;
      wrote = rw (end_last DoPut messages) wrote;
      quiet = same ∙ ap (λ (l : Line). l.outgoing.failed) is ∙ putting.quiet;
    },
    ap (λ (l : Line). l.incoming) is ∙ putting.unread,
  )

  pub not_ended : (fault : Fault) → Writes {A = Unit {0}} {E = Fault} (Err fault) begun.outgoing.output c (unended_bytes messages ++ spelling End) → z ≡ y + 1 → fault ≡ Transport
      → SendsCall (Err fault) DoPut messages begun (line_of a x (Some fault) left (outgoing_of c z))
  not_ended fault wrote counted kind =
      let none : stopped ≡ None = is_none a x stopped left (outgoing_of b y) line is (is_open messages begun (put_at line before) putting) in
      let same : incoming_of a x (left_of stopped left) ≡ begun.incoming = ap (λ (l : Line). l.incoming) is ∙ putting.unread in
      let plain : incoming_of a x (Ok left) ≡ begun.incoming = ap (λ (s : Option Fault). incoming_of a x (left_of s left)) (sym none) ∙ same in
      inl (
        kind,
        record {
          fit = putting.fit;
          wrote = rw (end_last DoPut messages) wrote;
          counted = counted ∙ ap (λ (n : ℕ). n + 1) (ap (λ (l : Line). l.outgoing.failed) is ∙ putting.quiet);
        },
        ap (λ (f : Fault). incoming_of a x (stopped_at f left)) kind ∙ ap (λ (i : Incoming). record i { left = stopped_by Transport i.left }) plain,
      )
