-- What is taken next of a stream.
use Rattle.std.proofs.Common.{◌≡◌, ◌≤◌, ℕ, length, Bor, List, [], ◌∷◌, ◌++◌, Option, Some, None, Result, Ok, Err, refl, sym, ap, subst, ◌∙◌, append-nil, inl, inr}
use Rattle.std.specs.Prelude.{IfOk, IfSome, option_map}
use Rattle.scan_base.specs.declared.fault.Fault.{Fault}
use Rattle.scan_base.specs.declared.fault.Fault.TheVariants.{BadBatch}
use Rattle.scan_base.specs.Limits.{most_columns}
use Rattle.arrow_types.specs.declared.schema.Schema.{Schema}
use Rattle.arrow_types.specs.Schema.{IsSchema}
use Rattle.arrays.specs.Batch.{BatchAt}
use Rattle.arrays.specs.TypedLayouts.{AreOfTypes}
use Rattle.grpc_frame.specs.Ends.{Advances, Tape}
use Rattle.grpc_frame.specs.Records.{Received, with_more}
use Rattle.grpc_frame.specs.declared.place.Place.TheVariants.{InAnswer}
use Rattle.ipc_batch.specs.State.{Known, State}
use Rattle.ipc_batch.specs.SaidRows.{HasColumns, Rows}
use Rattle.ipc_batch.proofs.Typed.{columns_many}
use Rattle.flight_info.specs.Payloads.{Payload}
use Rattle.flight_client.specs.Stream.{StreamAt, Came, begun as nothing, payload_news, after_payload}
use Rattle.flight_client.proofs.Arrivals.{came_more, schema_first, schema_kept}
use Rattle.client_calls.specs.declared.call.Method.TheVariants.{DoGet}
use Rattle.client_calls.specs.declared.failure.Failure.{Failure}
use Rattle.client_calls.specs.declared.failure.Failure.TheVariants.{Found}
use Rattle.client_calls.specs.declared.fetch_piece.FetchPiece.{FetchPiece}
use Rattle.client_calls.specs.declared.fetch_piece.FetchPiece.TheVariants as took
use Rattle.client_calls.specs.Answers.{Incoming, Stop}
use Rattle.client_calls.specs.StreamAnswers.{AnswersStream}
use Rattle.client_calls.specs.Outcome.{CallsAt, Line, Outgoing, left_of}
use Rattle.client_calls.specs.Taking.{FetchGives, HasNoSchema, IsBegun, IsFetchReader, IsTaken, KeepsSchema, Taken, TakesNext, ended, with_batch}
use Rattle.client_calls.specs.inside.Parts.{SendsCall, given, incoming_of, left_behind, line_of}
use Rattle.client_calls.specs.inside.Payloads.{BatchOrEnd, EndsAs, HasTaken, TakesAs}
use Rattle.client_calls.proofs.Taking.{taken_none, taken_more, more_quiet}
use Rattle.client_calls.proofs.Streams.{stream_stops, stream_answers, stream_refused, stream_ends}

-- ---- one payload

-- what was said after a state, said after a stream of that state
said_of_stream : (stream : StreamAt) (before : State) (payload : Payload) (found : Fault) → stream.state ≡ before → payload_news before payload ≡ Err found → after_payload stream payload ≡ Err found
said_of_stream stream before payload found is e = rw (is, e) refl

module _ (stream : StreamAt) (a b c : Tape) (x y z : ℕ) (old mid new : Received) (has : HasTaken stream a b old mid) (same : y ≡ x) (before after : State) (is : stream.state ≡ before) where
  abbrev Now : Result (Result FetchPiece Failure) Fault → Type 0
  Now result = (came : List ℕ) × Advances b c came × TakesAs result before after (incoming_of b y (Ok mid)) (incoming_of c z (Ok new)) (with_more mid came) new

  abbrev payloads : List Payload
  payloads = has.0

  one_more : (payload : Payload) (batch : Option BatchAt) → payload_news before payload ≡ Ok (record { state = after; batch = batch }) → Came (payloads ++ payload ∷ []) (with_batch stream after batch)
  one_more payload (Some batch) says =
      came_more payloads payload stream (record { state = after; batch = Some batch }) (rw is says) has.2
  one_more payload None says =
      let made = came_more payloads payload stream (record { state = after; batch = None }) (rw is says) has.2 in
      subst (λ (rows : Rows). Came (payloads ++ payload ∷ []) (record { state = after; rows = rows; end = stream.end })) (append-nil stream.rows) made

  -- a payload came
  pub on_payload : (batch : Option BatchAt) → Now (Ok (Ok (took.Payload batch))) → HasTaken (with_batch stream after batch) a c old new × (z ≡ x)
  on_payload batch (came, consumed, (payload, arrives, says)) = (
    (payloads ++ payload ∷ [], taken_more a b c x y z old mid new payloads has.1 same payload (came, consumed, arrives), one_more payload batch says),
    more_quiet a b c x y z old mid new payloads has.1 same payload (came, consumed, arrives),
  )

  -- status 0 came
  pub on_end : Now (Ok (Ok took.End)) → EndsAs (Ok (Ok (ended (with_batch stream after None)))) a c x z old new
  on_end (came, consumed, (arrives, stays)) =
      let whole : record stream { state = after } ≡ stream = rw (stays, is) refl in
      subst (λ (s : StreamAt). EndsAs (Ok (Ok (ended s))) a c x z old new) (sym whole)
      (stream_ends a b c x y z old mid new payloads has.1 same stream has.2 (ended stream) (came, consumed, arrives) (Ok tt, refl, refl))

  -- a fault was answered
  pub on_answer : (failure : Failure) → Now (Ok (Err failure)) → EndsAs (Ok (Err failure)) a c x z old new
  on_answer failure (came, consumed, (fault, said, arrives)) =
      subst (λ (f : Failure). EndsAs (Ok (Err f)) a c x z old new) (sym said)
      (stream_answers a b c x y z old mid new payloads has.1 same stream has.2 fault (came, consumed, arrives))

  -- it did not come to its Status
  pub on_stop : (fault : Fault) → Now (Err fault) → EndsAs (Err fault) a c x z old new
  on_stop fault (came, consumed, inl arrives) = stream_stops a b c x y z old mid new payloads has.1 same stream has.2 fault (came, consumed, arrives)
  on_stop fault (came, consumed, inr refused) =
      stream_refused a b c x y z old mid new payloads has.1 same stream has.2 refused.payload refused.found fault (came, consumed, refused.arrives)
      (rw is refused.first) (λ other. said_of_stream stream before refused.payload refused.found is (refused.refused other)) refused.instead

-- ---- what is known of the schema

-- a payload that was read keeps the schema
pub payload_keeps : (before after : State) (batch : Option BatchAt) (payload : Payload) → payload_news before payload ≡ Ok (record { state = after; batch = batch }) → KeepsSchema before after
payload_keeps None after batch payload says = tt
payload_keeps (Some known) after batch payload says = schema_kept known payload (record { state = after; batch = batch }) says

pub keeps_both : (before middle after : State) → KeepsSchema before middle → KeepsSchema middle after → KeepsSchema before after
keeps_both None middle after p q = tt
keeps_both (Some known) middle after p q = let r = rw p.1 at q in (r.0, r.1, r.2 ∙ p.2)

-- ---- a connection

by_parts : (incoming : Incoming) (y : ℕ) (left : Received) → y ≡ incoming.failed → incoming.left ≡ Ok left → incoming_of incoming.input y (Ok left) ≡ incoming
by_parts incoming y left same was = rw (same, ← was) refl

module _ (ticket : Payload) (stream : StreamAt) (begun : Line) (b : Tape) (y : ℕ) (mid : Received) (out : Outgoing) (fetching : IsFetchReader ticket stream begun (line_of b y None mid out)) where
  abbrev t : IsTaken ticket fetching.0 begun (line_of b y None mid out)
  t = fetching.2

  -- where the answer began
  abbrev pub start : Received
  start = t.left

  pub has_taken : HasTaken stream begun.incoming.input b start mid
  has_taken =
      let at : t.at ≡ mid = let e = t.is in cc in
      (fetching.0, subst (λ (left : Received). Taken begun.incoming.input b start left fetching.0) at t.taken, fetching.1)

  -- the next batch came
  pub goes_on : (next : StreamAt) (c : Tape) (z : ℕ) (new : Received) → HasTaken next begun.incoming.input c start new × (z ≡ y) → IsFetchReader ticket next begun (line_of c z None new out)
  goes_on next c z new (has, same) = (
    has.0,
    has.2,
    record {
      written = t.written;
      left = start;
      was = t.was;
      at = new;
      is = refl;
      taken = has.1;
      quiet = same ∙ t.quiet;
    },
  )

  -- the answer came to its end, or it did not
  pub gives : (result : Result (Result StreamAt Failure) Fault) (c : Tape) (z : ℕ) (new : Received) (stopped : Option Fault) → left_behind result new ≡ left_of stopped new
      → EndsAs result begun.incoming.input c y z start new → FetchGives ticket (given result) begun (line_of c z stopped new out)
  gives result c z new stopped left (came, consumed, answers) =
      subst (λ (at : Result Received Stop). CallsAt at DoGet (ticket ∷ []) AnswersStream (given result) begun (line_of c z stopped new out)) (sym t.was)
      (inl (record {
        written = t.written;
        came = came;
        consumed = consumed;
        answers = subst (λ (left : Result Received Stop). AnswersStream (given result) begun.incoming (incoming_of c z left) (with_more start came)) left
            (subst (λ (from : Incoming). AnswersStream (given result) from (incoming_of c z (left_behind result new)) (with_more start came)) from answers);
      }))
    where
      from : incoming_of begun.incoming.input y (Ok start) ≡ begun.incoming
      from = by_parts begun.incoming y start t.quiet t.was

  -- what is taken next
  pub next_gives : (taken : Result (Option BatchAt) Failure) (after : State) (c : Tape) (z : ℕ) (new : Received) → BatchOrEnd (Ok taken) stream after begun.incoming.input c y z start new
      → TakesNext ticket stream begun taken after (line_of c z None new out)
  next_gives (Ok (Some batch)) after c z new is = goes_on (with_batch stream after (Some batch)) c z new is
  next_gives (Ok None) after c z new is = gives (Ok (Ok (ended (with_batch stream after None)))) c z new None refl is
  next_gives (Err failure) after c z new is = gives (Ok (Err failure)) c z new None refl is

  pub next_stops : (fault : Fault) (c : Tape) (z : ℕ) (new : Received) → EndsAs (Err fault) begun.incoming.input c y z start new
      → FetchGives ticket (Err (Found fault)) begun (line_of c z (Some fault) new out)
  next_stops fault c z new is = gives (Err fault) c z new (Some fault) refl is

-- ---- a fetch is begun

module _ (ticket : Payload) (begun : Line) (b : Tape) (y : ℕ) (mid : Received) (out : Outgoing) (sends : SendsCall (Ok tt) DoGet (ticket ∷ []) begun (line_of b y None mid out)) (place : mid.place ≡ InAnswer) where
  -- nothing was taken yet
  abbrev none_taken : IsFetchReader ticket nothing begun (line_of b y None mid out)
  none_taken = (
    [],
    ([], refl, (refl, refl)),
    record {
      written = sends.0;
      left = mid;
      was = ap (λ (i : Incoming). i.left) (sym sends.1);
      at = mid;
      is = refl;
      taken = subst (λ (i : Incoming). Taken i.input b mid mid []) sends.1 (taken_none b mid place);
      quiet = ap (λ (i : Incoming). i.failed) sends.1;
    },
  )

  abbrev none_has : HasTaken nothing begun.incoming.input b mid mid
  none_has = has_taken ticket nothing begun b y mid out none_taken

  module _ (c : Tape) (z : ℕ) (new : Received) (after : State) where
    abbrev First : Result (Result FetchPiece Failure) Fault → Type 0
    First result = Now nothing begun.incoming.input b c y y z mid mid new none_has refl None after refl result

    -- its schema
    begins_with_none : (known : Known) → after ≡ Some known → First (Ok (Ok (took.Payload None))) → IsBegun ticket after begun (line_of c z None new out)
    begins_with_none known is takes = record {
      stream = with_batch nothing after None;
      state_is = refl;
      known = known;
      has_schema = is;
      no_rows = refl;
      fetching = goes_on ticket nothing begun b y mid out none_taken (with_batch nothing after None) c z new
          (on_payload nothing begun.incoming.input b c y y z mid mid new none_has refl None after refl None takes);
    }

    -- the first payload says it
    pub first_known : (batch : Option BatchAt) → First (Ok (Ok (took.Payload batch))) → (known : Known) × (after ≡ Some known) × (batch ≡ None)
    first_known batch takes = schema_first takes.2.0 (record { state = after; batch = batch }) takes.2.2

    pub begins : (batch : Option BatchAt) → First (Ok (Ok (took.Payload batch))) → IsBegun ticket after begun (line_of c z None new out)
    begins batch takes =
        let first = first_known batch takes in
        begins_with_none first.0 first.1 (subst (λ (found : Option BatchAt). First (Ok (Ok (took.Payload found)))) first.2 takes)

    -- or the stream ended without one
    pub lacks : First (Ok (Ok took.End)) → HasNoSchema ticket (Found BadBatch) begun (line_of c z None new out)
    lacks takes = record {
      stream = ended (with_batch nothing after None);
      none = let none : after ≡ None = takes.2.1 in rw none refl;
      whole = gives ticket nothing begun b y mid out none_taken (Ok (Ok (ended (with_batch nothing after None)))) c z new None refl
          (on_end nothing begun.incoming.input b c y y z mid mid new none_has refl None after refl takes);
      failure_is = refl;
    }

    pub begin_answers : (failure : Failure) → First (Ok (Err failure)) → FetchGives ticket (Err failure) begun (line_of c z None new out)
    begin_answers failure takes = gives ticket nothing begun b y mid out none_taken (Ok (Err failure)) c z new None refl
        (on_answer nothing begun.incoming.input b c y y z mid mid new none_has refl None after refl failure takes)

    pub begin_stops : (fault : Fault) → First (Err fault) → FetchGives ticket (Err (Found fault)) begun (line_of c z (Some fault) new out)
    begin_stops fault takes = next_stops ticket nothing begun b y mid out none_taken fault c z new
        (on_stop nothing begun.incoming.input b c y y z mid mid new none_has refl None after refl fault takes)

-- ---- the schema may be written

pub valid_known : (found : Option (Bor Schema)) (state : State) (known : Known) → state ≡ Some known
    → option_map (λ (schema : Bor Schema). schema.now) found ≡ option_map (λ (known : Known). known.schema) state → IfSome found (λ schema. IsSchema schema.now) → IsSchema known.schema
valid_known None state known is value valid = let no : None ≡ Some known.schema = rw is at value in absurd cc
valid_known (Some schema) state known is value valid =
    let same : Some schema.now ≡ Some known.schema = rw is at value in
    let one : schema.now ≡ known.schema = cc in
    subst IsSchema one valid

-- so a batch after it has few columns
few_columns : (before after : State) (known : Known) (batch : Option BatchAt) → before ≡ Some known → IsSchema known.schema → KeepsSchema before after → HasColumns batch after
    → IfSome batch (λ b. length b.columns ≤ most_columns)
few_columns before after known None is valid kept has = tt
few_columns before after known (Some batch) is valid kept has =
    let keeps : KeepsSchema (Some known) after = rw is at kept in
    let typed : AreOfTypes (keeps.0).schema.fields batch.columns = rw keeps.1 at has in
    let many = columns_many (keeps.0).schema.fields batch.columns typed in
    let few = valid.few in
    let same = keeps.2 in
    rw (many, same) few

pub all_few : (taken : Result (Option BatchAt) Failure) (before after : State) (known : Known) → before ≡ Some known → IsSchema known.schema → KeepsSchema before after → IfOk taken (λ batch. HasColumns batch after)
    → IfOk taken (λ batch. IfSome batch (λ b. length b.columns ≤ most_columns))
all_few (Ok batch) before after known is valid kept has = few_columns before after known batch is valid kept has
all_few (Err failure) before after known is valid kept has = tt
