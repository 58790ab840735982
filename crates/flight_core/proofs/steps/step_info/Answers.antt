use Rattle.std.proofs.Common.{refl}
use Rattle.flight_info.specs.Replies.{refusal}
use Rattle.flight_core.proofs.Looking.{info_refused, unread}
use Rattle.flight_core.proofs.Reacting.{reacts_by_look, one_more_look}
use Rattle.flight_core.proofs.steps.step_info.Goals as goal

pub returns-in-Ok-clause-step : goal.returns-in-Ok-clause-step
returns-in-Ok-clause-step g c =
    let seen = c.in-Ok.ensures in
    reacts_by_look g.B.Backend.moves _ _ _ _ seen.learns seen.asks (refl, rw (seen.ok.1, seen.ok.2) at c.answer_info.ensures.info)
    (λ other looks. one_more_look (g.B.Backend.seat c.args.backend.now) (g.B.Backend.seat c.current.new.self) seen.ok.0) (λ asks. asks)

pub returns-in-Err-clause-step : goal.returns-in-Err-clause-step
returns-in-Err-clause-step g c =
    let seen = c.in-Err.ensures in
    let due = c.unread_info.ensures in
    rw c.refusal.ensures.reply (reacts_by_look g.B.Backend.moves _ _ _ (refusal c.unread_info.result) seen.learns seen.asks
    (info_refused (g.B.Backend.seat c.current.new.self).log c.args.payload.now c.args.parts _ due) (λ other looks. absurd (unread _ _ due other looks)) (λ asks. asks))
