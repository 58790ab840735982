-- The rows of a text that are sent, batch by batch.
use Rattle.std.proofs.Common.{◌≡◌, ℕ, List, [], ◌∷◌, ◌++◌, Some, Result, Ok, Err, inl, inr, refl, sym, ap, subst, ◌∙◌, append_assoc, append-nil}
use Rattle.std.specs.Prelude.{MatchResult}
use Rattle.std.proofs.KnownBytes.{Appends-nil}
use Rattle.std.proofs.lemmas.List.{map-append}
use Rattle.scan_base.specs.declared.fault.Fault.{Fault}
use Rattle.grpc_frame.specs.Ends.{CanFail}
use Rattle.flight_info.specs.Payloads.{Payload}
use Rattle.flight_proto.specs.FlightData.{data_bytes}
use Rattle.ipc_stream.specs.declared.message.IpcMessage.{IpcMessage}
use Rattle.csv_input.specs.Long.{WhyNoMessage}
use Rattle.csv_input.specs.Rows.{IsNext, SaysRecords}
use Rattle.csv_input.specs.Input.{TextAt}
use Rattle.client_calls.specs.declared.call.Method.TheVariants.{DoPut}
use Rattle.client_calls.specs.declared.failure.Failure.{Failure}
use Rattle.client_calls.specs.declared.failure.Failure.TheVariants.{Found}
use Rattle.client_calls.specs.declared.put_call.Target.{Target}
use Rattle.client_calls.specs.Answers.{AnswersOne, Incoming}
use Rattle.client_calls.specs.Commands.{carried_in, put_descriptor, put_payloads, ReadsCount}
use Rattle.client_calls.specs.Outcome.{Calls, Line, stopped_by}
use Rattle.client_calls.specs.Sending.{BeginsPut, FailsPut, IsPutWriter, PutAt, later_payload, unended_bytes}
use Rattle.client_commands.specs.RowsPut.{FailsRows, IsUnmade, PutsRows}
use Rattle.client_commands.specs.inside.RowsSent.{HaveSent}

-- one message more of a put
payloads_more : (target : Target) (first : IpcMessage) (others : List IpcMessage) (message : IpcMessage)
    → put_payloads target (first ∷ (others ++ message ∷ [])) ≡ put_payloads target (first ∷ others) ++ later_payload message ∷ []
payloads_more target first others message =
    ap (λ (l : List Payload). data_bytes (Some (put_descriptor target)) (carried_in first) ∷ l) (map-append later_payload others (message ∷ []))

module _ (target : Target) (text : TextAt) (begun : Line) where
  -- the message of the columns was sent, or not
  pub columns_sent : (first : IpcMessage) (now : PutAt) → SaysRecords text.schema [] (first ∷ []) → IsPutWriter (put_payloads target (first ∷ [])) begun now → HaveSent target text [] begun now
  columns_sent first now says putting = record { first = first; others = []; says = says; putting = putting }

  pub columns_unsent : (first : IpcMessage) (failure : Failure) (new : Line) → SaysRecords text.schema [] (first ∷ []) → FailsPut failure (put_payloads target (first ∷ [])) begun new → FailsRows target text failure begun new
  columns_unsent first failure new says fails = (
    fails.0,
    fails.1,
    record { some = []; others = text.records; splits = refl; messages = first ∷ []; says = inr says; cut = fails.3; why = inl fails.2 },
  )

  pub columns_begun : {A : Type 0} (view : A → PutAt) (result : Result A Failure) (first : IpcMessage) → SaysRecords text.schema [] (first ∷ []) → BeginsPut view target first result begun
      → MatchResult result (λ p. HaveSent target text [] begun (view p)) (λ failure. (last : Line) × FailsRows target text failure begun last)
  columns_begun view (Ok p) first says putting = columns_sent first (view p) says putting
  columns_begun view (Err failure) first says fails = (fails.0, columns_unsent first failure fails.0 says fails.1)

  -- it was not made
  pub columns_unmade : (fault : Fault) → IsUnmade text text.records fault → (last : Line) × FailsRows target text (Found fault) begun last
  columns_unmade fault unmade = (
    record { incoming = record begun.incoming { left = stopped_by fault begun.incoming.left }; outgoing = begun.outgoing },
    (
      fault,
      refl,
      record {
        some = [];
        others = text.records;
        splits = refl;
        messages = [];
        says = inl refl;
        cut = record { wrote = record { front = []; rest = unended_bytes (put_payloads target []); splits = refl; wrote = Appends-nil begun.outgoing.output }; stopped = refl };
        why = inr (unmade, refl);
      },
    ),
  )

  module _ (done left rest : List (List (List ℕ))) (now : PutAt) (have : HaveSent target text done begun now) (splits : text.records ≡ done ++ left) where
    -- one batch more was sent
    pub batch_sent : (message : IpcMessage) (new : PutAt) (next : IsNext text.schema message left rest)
        → IsPutWriter (put_payloads target (have.first ∷ have.others) ++ later_payload message ∷ []) begun new → HaveSent target text (done ++ next.taken) begun new
    batch_sent message new next putting = record {
      first = have.first;
      others = have.others ++ message ∷ [];
      says = next.behind done (have.first ∷ have.others) have.says;
      putting = subst (λ (l : List Payload). IsPutWriter l begun new) (sym (payloads_more target have.first have.others message)) putting;
    }

    pub batch_splits : (message : IpcMessage) (next : IsNext text.schema message left rest) → text.records ≡ (done ++ next.taken) ++ rest
    batch_splits message next = splits ∙ ap (λ (l : List (List (List ℕ))). done ++ l) next.splits ∙ sym (append_assoc done next.taken rest)

    -- it was not
    pub batch_unsent : (message : IpcMessage) (failure : Failure) (new : Line) → IsNext text.schema message left rest
        → FailsPut failure (put_payloads target (have.first ∷ have.others) ++ later_payload message ∷ []) begun new → FailsRows target text failure begun new
    batch_unsent message failure new next fails =
        let all = payloads_more target have.first have.others message in
        let moved = subst (λ (l : List Payload). FailsPut failure l begun new) (sym all) fails in (
          moved.0,
          moved.1,
          record {
            some = done ++ next.taken;
            others = rest;
            splits = batch_splits message next;
            messages = have.first ∷ (have.others ++ message ∷ []);
            says = inr (next.behind done (have.first ∷ have.others) have.says);
            cut = moved.3;
            why = inl moved.2;
          },
        )

    -- it was not made
    pub batch_unmade : (fault : Fault) → WhyNoMessage text.schema.fields left rest fault → (last : Line) × FailsRows target text (Found fault) begun last
    batch_unmade fault unmade =
        let putting = have.putting in (
          record { incoming = record begun.incoming { left = stopped_by fault begun.incoming.left }; outgoing = now.line.outgoing },
          (
            fault,
            refl,
            record {
              some = done;
              others = left;
              splits = splits;
              messages = have.first ∷ have.others;
              says = inr have.says;
              cut = record {
                wrote = record { front = putting.sent.written; rest = now.waiting; splits = sym putting.sent.whole; wrote = putting.sent.wrote };
                stopped = refl;
              };
              why = inr ((rest, unmade), putting.quiet);
            },
          ),
        )

    -- none is left
    pub all_sent : left ≡ [] → HaveSent target text text.records begun now
    all_sent none = subst (λ (l : List (List (List ℕ))). HaveSent target text l begun now) (sym (splits ∙ ap (λ (l : List (List (List ℕ))). done ++ l) none ∙ append-nil done)) have

  -- all rows were put
  pub rows_put : (now : PutAt) (have : HaveSent target text text.records begun now) (result : Result ℕ Failure) (last : Line)
      → Calls DoPut (put_payloads target (have.first ∷ have.others)) (AnswersOne ReadsCount) result begun last → PutsRows target text result begun last
  rows_put now have result last calls = inl (have.first ∷ have.others, have.says, calls)

  -- as many failures as before
  pub few_reads : (done : List (List (List ℕ))) (now : PutAt) → HaveSent target text done begun now → CanFail begun.incoming.failed → CanFail now.line.incoming.failed
  few_reads done now have few = subst (λ (i : Incoming). CanFail i.failed) (sym have.putting.unread) few

  pub few_writes : (done : List (List (List ℕ))) (now : PutAt) → HaveSent target text done begun now → CanFail begun.outgoing.failed → CanFail now.line.outgoing.failed
  few_writes done now have few = subst (λ (n : ℕ). CanFail n) (sym have.putting.quiet) few
