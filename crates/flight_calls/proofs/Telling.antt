-- How a failed read is told.
use Rattle.std.proofs.Common.{◌≡◌, ℕ, ◌+◌, List, [], ◌∷◌, ◌++◌, map, Option, Some, None, Result, Ok, Err, refl, ◌∙◌, append-nil, inl, inr, arith}
use Rattle.scan_base.specs.declared.fault.Fault.{Fault}
use Rattle.scan_base.specs.declared.fault.Fault.TheVariants.{Transport}
use Rattle.flight_info.specs.Replies.{ReplyAt}
use Rattle.flight_calls.specs.declared.setting.Options.{Options}
use Rattle.flight_core.specs.Seats.{Moves}
use Rattle.flight_calls.specs.OwedAnswers.{Connection, Serves, Why, Wrote, items_owed, answer_bytes}
use Rattle.flight_calls.specs.Laws.{ReadFailed}

-- it is counted, so nothing that counts none tells it
not_both : (n m : ℕ) → m ≡ n + 1 → m ≡ n + 0 → ⊥
not_both n m grown same = omega arith

tells : (result : Result (Unit {0}) Fault) (old new : Connection) (rest : List ℕ) (replies : List ReplyAt) (last : Option Fault) (done begun : List (List ℕ))
    → items_owed replies last ≡ done ++ begun → Wrote old.output new.output done begun → Why result old new rest last begun → new.failed_reads ≡ old.failed_reads + 1
    → ReadFailed result old new rest (map answer_bytes replies)
tells (Ok done) old new rest replies None all [] owes wrote why counted = absurd (not_both old.failed_reads new.failed_reads counted why.2.0)
tells (Err Transport) old new rest replies None all [] owes wrote (inside, inl cut) counted = absurd (not_both old.failed_reads new.failed_reads counted cut.2.0)
tells (Err Transport) old new rest replies None all [] owes wrote (inside, inr failed) counted =
    record { transport = refl; inside = inside; wrote = rw (owes ∙ append-nil all) wrote; counted = failed }
tells (Err Transport) old new rest replies None all (item ∷ []) owes wrote why counted = absurd (not_both old.failed_reads new.failed_reads counted why.0)
tells (Err Transport) old new rest replies (Some fault) all (item ∷ []) owes wrote why counted = absurd (not_both old.failed_reads new.failed_reads counted why.1.0)
tells (Err fault) old new rest replies (Some last) all [] owes wrote why counted = absurd (not_both old.failed_reads new.failed_reads counted why.3.0)
tells result old new rest replies last all begun owes wrote why counted = absurd why

pub failed_reads : (moves : Moves) (options : Options) (result : Result (Unit {0}) Fault) (old new : Connection) (serves : Serves moves options result old new)
    → new.failed_reads ≡ old.failed_reads + 1 → ReadFailed result old new serves.rest (map answer_bytes serves.replies)
failed_reads moves options result old new s counted = tells result old new s.rest s.replies s.last s.done s.begun s.owes s.wrote s.why counted
