-- A stream as it is sent.
use Rattle.std.proofs.Common.{◌≡◌, ◌≤◌, ℕ, zero, suc, arith, true, List, [], ◌∷◌, ◌++◌, length, Some, None, Result, Ok, Err, inl, refl, sym, ap, subst, ◌∙◌, append_assoc, append-nil}
use Rattle.std.proofs.lemmas.List.Elements.{All-append, All-nil}
use Rattle.scan_base.specs.declared.fault.Fault.{Fault}
use Rattle.scan_base.specs.declared.fault.Fault.TheVariants.{OutOfMemory, Transport}
use Rattle.scan_base.specs.Limits.{most_message_bytes}
use Rattle.grpc_frame.specs.declared.record.Record.TheVariants.{Message}
use Rattle.grpc_frame.specs.Records.{spelling}
use Rattle.grpc_frame.specs.Calls.{status_of}
use Rattle.grpc_frame.specs.Outgoing.{IsBroken, IsSent, Outgoing, SendsAll}
use Rattle.grpc_frame.proofs.Outgoing.{none_sent}
use Rattle.endpoint_split.specs.Handle.{HandleAt}
use Rattle.table_versions.specs.Table.{Table}
use Rattle.table_versions.specs.Database.{Database}
use Rattle.flight_info.specs.Payloads.{Payload, FitMessages}
use Rattle.flight_info.specs.Replies.{ReplyAt}
use Rattle.fetch_stream.specs.Fetches.{FetchAt}
use Rattle.fetch_stream.specs.Morsels.{GivesSchema, before_schema, behind_schema}
use Rattle.fetch_stream.specs.Streams.{StreamAt, Opens, Parcel, Gives, GivesParcel, HasGiven, MayRefuse, StreamsAnswer}
use Rattle.fetch_stream.proofs.Answering.{gave, ended, was_refused}
use Rattle.row_sources.specs.declared.turn.Patience.{Patience}
use Rattle.row_sources.specs.declared.turn.Patience.TheVariants.{Endless}
use Rattle.std.specs.Prelude.{◌≢◌}
use Rattle.flight_calls.specs.Sends.{SendsReply, SendsRest}
use Rattle.flight_calls.proofs.Writing.{messages_bytes, nothing_sent, nothing_not_sent, parcel_sent, parcel_not_sent, rest_sent, status_sent}

-- what a stream has given was sent
pub record HasSent (first stream : StreamAt) (a b : Outgoing) : Type 0 where
  pub payloads : List Payload
  pub given : (answer : Table) (earlier : List Payload) → HasGiven answer earlier first → HasGiven answer (earlier ++ payloads) stream
  pub going : first.refused ≡ None → stream.refused ≡ None
  pub fits : FitMessages payloads
  pub sent : IsSent a b (messages_bytes payloads)

-- where a turn may give nothing yet, looks are left
pub some_left : (looks : ℕ) (patience : Patience) → (looks ≡ 0 → patience ≡ Endless) → patience ≢ Endless → 1 ≤ looks
some_left zero patience ends not = absurd (not (ends refl))
some_left (suc looks) patience ends not = omega arith

-- of a fetch at this handle
abbrev pub SendsFetch : Database → HandleAt → Result (Unit {0}) Fault → Outgoing → Outgoing → Type 0
SendsFetch database handle = SendsReply (λ (reply : ReplyAt). FetchAt database handle reply.payloads reply.fault)

both_fit : (payloads more : List Payload) → FitMessages payloads → FitMessages more → FitMessages (payloads ++ more)
unfolding FitMessages
both_fit payloads more all rest = All-append (λ (p : Payload). length p ≤ most_message_bytes) payloads more all rest

no_payloads : FitMessages []
unfolding FitMessages
no_payloads = All-nil (λ (p : Payload). length p ≤ most_message_bytes)

module _ (law : StreamsAnswer) where
  pub stream_begins : (first : StreamAt) (a : Outgoing) → HasSent first first a a
  stream_begins first a = record {
    payloads = [];
    given = λ answer earlier has. subst (λ (p : List Payload). HasGiven answer p first) (sym (append-nil earlier)) has;
    going = λ none. none;
    fits = no_payloads;
    sent = none_sent a;
  }

  -- one parcel more was given
  more_given : (answer : Table) (earlier payloads : List Payload) (stream next : StreamAt) (parcel : Parcel) → HasGiven answer (earlier ++ payloads) stream → GivesParcel stream parcel next
      → HasGiven answer (earlier ++ (payloads ++ parcel)) next
  more_given answer earlier payloads stream next parcel has one =
      subst (λ (p : List Payload). HasGiven answer p next) (append_assoc earlier payloads parcel) (law.go_on answer (earlier ++ payloads) stream next parcel has one)

  -- and sent
  pub parcel_goes_on : (first stream next : StreamAt) (parcel : Parcel) (a b c : Outgoing) → HasSent first stream a b → Gives stream (Ok (Some parcel)) next
      → IsSent b c (messages_bytes parcel) → HasSent first next a c
  parcel_goes_on first stream next parcel a b c has gives more =
      let one = gave stream next parcel gives in
      record {
        payloads = has.payloads ++ parcel;
        given = λ answer earlier at. more_given answer earlier has.payloads stream next parcel (has.given answer earlier at) one;
        going = λ none. one.refused;
        fits = both_fit has.payloads parcel has.fits one.fits;
        sent = parcel_sent a b c has.payloads parcel has.sent more;
      }

  -- or not: what went before it and it are a beginning of an answer that memory cut short
  pub parcel_fails : (fault : Fault) (first stream next : StreamAt) (parcel : Parcel) (a b c : Outgoing) → HasSent first stream a b
      → Gives stream (Ok (Some parcel)) next → (fault ≡ Transport) × IsBroken b c (messages_bytes parcel) → SendsRest first (Err fault) a c
  parcel_fails fault first stream next parcel a b c has gives failed database handle answer earlier means at none =
      let one = gave stream next parcel gives in
      let all = more_given answer earlier has.payloads stream next parcel (has.given answer earlier at) one in
      record {
        reply = record { payloads = has.payloads ++ parcel; fault = Some OutOfMemory };
        right = law.refused database handle answer (earlier ++ (has.payloads ++ parcel)) next OutOfMemory means all (inl refl);
        fits = both_fit has.payloads parcel has.fits one.fits;
        sent = (failed.0, parcel_not_sent a b c has.payloads parcel (status_of (Some OutOfMemory)) has.sent failed.1);
      }

  -- the same of one payload alone
  pub stream_goes_on : (first stream next : StreamAt) (payload : Payload) (a b c : Outgoing) → HasSent first stream a b → Gives stream (Ok (Some (payload ∷ []))) next
      → IsSent b c (spelling (Message payload)) → HasSent first next a c
  stream_goes_on first stream next payload a b c has gives more =
      parcel_goes_on first stream next (payload ∷ []) a b c has gives (subst (IsSent b c) (sym (append-nil (spelling (Message payload)))) more)

  pub stream_fails : (fault : Fault) (first stream next : StreamAt) (payload : Payload) (a b c : Outgoing) → HasSent first stream a b
      → Gives stream (Ok (Some (payload ∷ []))) next → (fault ≡ Transport) × IsBroken b c (spelling (Message payload)) → SendsRest first (Err fault) a c
  stream_fails fault first stream next payload a b c has gives failed =
      parcel_fails fault first stream next (payload ∷ []) a b c has gives (failed.0, subst (IsBroken b c) (sym (append-nil (spelling (Message payload)))) failed.1)

  -- nothing more was sent
  pub stream_waits : (first stream next : StreamAt) (a b c : Outgoing) → HasSent first stream a b → next ≡ stream
      → IsSent b c [] → HasSent first next a c
  stream_waits first stream next a b c has same none =
      subst (λ (s : StreamAt). HasSent first s a c) (sym same) (record {
        payloads = has.payloads;
        given = has.given;
        going = has.going;
        fits = has.fits;
        sent = nothing_sent a b c has.payloads has.sent none;
      })

  -- or the other end was gone: what went before is a beginning of an answer that memory cut short
  pub stream_stops : (fault : Fault) (first stream : StreamAt) (a b c : Outgoing) → HasSent first stream a b
      → (fault ≡ Transport) × IsBroken b c [] → SendsRest first (Err fault) a c
  stream_stops fault first stream a b c has failed database handle answer earlier means at none = record {
    reply = record { payloads = has.payloads; fault = Some OutOfMemory };
    right = law.refused database handle answer (earlier ++ has.payloads) stream OutOfMemory means (has.given answer earlier at) (inl refl);
    fits = has.fits;
    sent = (failed.0, nothing_not_sent a b c has.payloads (status_of (Some OutOfMemory)) has.sent failed.1);
  }

  -- the stream ended, and then its status was sent, or not
  pub stream_ends : (r : Result (Unit {0}) Fault) (first stream next : StreamAt) (a b c : Outgoing) → HasSent first stream a b → Gives stream (Ok None) next
      → SendsAll r b c (spelling (status_of None)) → SendsRest first r a c
  stream_ends r first stream next a b c has gives last database handle answer earlier means at none =
      let end = ended stream next gives in
      record {
        reply = record { payloads = has.payloads; fault = None };
        right = law.end database handle answer (earlier ++ has.payloads) stream means (has.given answer earlier at) end.0 end.1;
        fits = has.fits;
        sent = status_sent r a b c has.payloads (status_of None) has.sent last;
      }

  -- the stream was refused for this
  pub stream_ends_by : (r : Result (Unit {0}) Fault) (fault : Fault) (first stream : StreamAt) (a b c : Outgoing) → HasSent first stream a b
      → (stream.refused ≡ None → MayRefuse stream fault) → SendsAll r b c (spelling (status_of (Some fault))) → SendsRest first r a c
  stream_ends_by r fault first stream a b c has why last database handle answer earlier means at none = record {
    reply = record { payloads = has.payloads; fault = Some fault };
    right = law.refused database handle answer (earlier ++ has.payloads) stream fault means (has.given answer earlier at) (why (has.going none));
    fits = has.fits;
    sent = status_sent r a b c has.payloads (status_of (Some fault)) has.sent last;
  }

  pub stream_refused : (r : Result (Unit {0}) Fault) (fault : Fault) (first stream next : StreamAt) (a b c : Outgoing) → HasSent first stream a b
      → Gives stream (Err fault) next → SendsAll r b c (spelling (status_of (Some fault))) → SendsRest first r a c
  stream_refused r fault first stream next a b c has gives last =
      stream_ends_by r fault first stream a b c has (λ none. was_refused stream next fault none gives) last

  -- what was still to be given was sent after it, or not
  pub stream_rest : (r : Result (Unit {0}) Fault) (first stream last : StreamAt) → last ≡ stream → (a b c : Outgoing) → HasSent first stream a b
      → SendsRest last r b c → SendsRest first r a c
  stream_rest r first stream last is a b c has rest database handle answer earlier means at none =
      let there = subst (λ (s : StreamAt). HasGiven answer (earlier ++ has.payloads) s) (sym is) (has.given answer earlier at) in
      let behind = rest database handle answer (earlier ++ has.payloads) means there (ap (λ (s : StreamAt). s.refused) is ∙ has.going none) in
      record {
        reply = record { payloads = has.payloads ++ behind.reply.payloads; fault = behind.reply.fault };
        right = subst (λ (p : List Payload). FetchAt database handle p behind.reply.fault) (append_assoc earlier has.payloads behind.reply.payloads) behind.right;
        fits = both_fit has.payloads behind.reply.payloads has.fits behind.fits;
        sent = rest_sent r a b c has.payloads behind.reply.payloads (status_of behind.reply.fault) has.sent behind.sent;
      }

-- ---- the answer to a fetch

-- a stream before the payload of its schema
abbrev fresh : StreamAt → StreamAt
fresh stream = before_schema stream.schema stream.left

-- its first payload
pub first_given : (stream : StreamAt) (payload : Payload) → stream ≡ fresh stream → GivesSchema stream.schema (Ok payload) → Gives stream (Ok (Some (payload ∷ []))) (behind_schema stream.schema stream.left)
first_given stream payload is gives = subst (λ (s : StreamAt). Gives s (Ok (Some (payload ∷ []))) (behind_schema stream.schema stream.left)) (sym is) (gives stream.left)

-- the stream after it
pub made_behind : (stream made last : StreamAt) → stream ≡ fresh stream → made ≡ stream → last ≡ record made { begun = true } → last ≡ behind_schema stream.schema stream.left
made_behind stream made last is same goes = goes ∙ ap (λ (s : StreamAt). record s { begun = true }) (same ∙ is)

-- all that was sent of a stream is the answer to the fetch whose stream it is
pub sends_fetch : (database : Database) (handle : HandleAt) (law : StreamsAnswer) (first : StreamAt) (r : Result (Unit {0}) Fault) (a c : Outgoing) → Opens database handle (Ok first)
    → SendsRest first r a c → SendsFetch database handle r a c
sends_fetch database handle law first r a c opens sends =
    sends database handle opens.0 [] opens.1 (subst (λ (s : StreamAt). HasGiven opens.0 [] s) (sym opens.2) (law.begin opens.0)) (ap (λ (s : StreamAt). s.refused) opens.2)
