use Rattle.std.proofs.Common.{◌≡◌, ◌<◌, length, None, Result, Ok, Err, refl, subst, arith}
use Rattle.scan_base.specs.declared.fault.Fault.{Fault}
use Rattle.row_sources.specs.declared.turn.Turn.{Turn}
use Rattle.row_sources.specs.declared.turn.Turn.TheVariants.{Given, Working, End}
use Rattle.fetch_stream.specs.Streams.{Parcel}
use Rattle.fetch_stream.specs.Morsels.{morsel_stream}
use Rattle.fetch_workers.specs.inside.JoinedMorsels.{GivesCounted}
use Rattle.fetch_workers.proofs.Joining.{later_ended, later_none, later_parcel, later_refused, later_waits, later_working}
use Rattle.fetch_workers.proofs.joined_morsels.turn_of_later.Goals as goal

pub returns-in-Going-clause-gives : goal.returns-in-Going-clause-gives
returns-in-Going-clause-gives g c morsels answers =
    let first = g.P.Answers.given c.args.answers.now in
    let now = g.P.Answers.given c.loop-part.answers in
    let comes = c.in-Going.ensures.comes in
    later_working c.args.looking.now.patience morsels c.args.done first now (c.loop-part.invariant.stood morsels answers) _ _ comes.0 c.loop-part.invariant.none c.requires.few comes.1

pub returns-in-End-clause-gives : goal.returns-in-End-clause-gives
returns-in-End-clause-gives g c morsels answers =
    let first = g.P.Answers.given c.args.answers.now in
    let now = g.P.Answers.given c.loop-part.answers in
    let comes = c.in-End.ensures.comes in
    later_none c.args.looking.now.patience morsels c.args.done first now (c.loop-part.invariant.stood morsels answers) _ _ comes.1 c.loop-part.invariant.none c.requires.few
    (omega (arith, comes.0, c.loop-part.invariant.count, answers.count_is))

pub returns-in-Ok-Given-clause-gives : goal.returns-in-Ok-Given-clause-gives
returns-in-Ok-Given-clause-gives g c morsels answers =
    let patience = c.args.looking.now.patience in
    let first = g.P.Answers.given c.args.answers.now in
    let now = g.P.Answers.given c.loop-part.answers in
    let next = g.P.Answers.given c.next_answer.new.answers in
    let part = g.A.Part.stream c.in-Given.part in
    let after = g.A.Part.stream c.turn_counted.new.part in
    let parcel = c.in-Ok-Given.parcel in
    let is : c.turn_counted.result ≡ Ok (Given parcel) = cc in
    let counted : GivesCounted patience part c.args.done (Ok (Given parcel)) after = subst (λ (r : Result (Turn Parcel) Fault). GivesCounted patience part c.args.done r after) is c.turn_counted.ensures in
    let comes = c.in-Given.ensures.comes in
    let fresh : part ≡ morsel_stream morsels now = answers.each now c.in-Given.part comes.0 in
    let there : now < length morsels.rows = omega (arith, comes.1, c.loop-part.invariant.count, answers.count_is) in
    later_parcel patience morsels c.args.done first now (c.loop-part.invariant.stood morsels answers) part fresh there after parcel next comes.2 counted

pub returns-in-Ok-Working-clause-gives : goal.returns-in-Ok-Working-clause-gives
returns-in-Ok-Working-clause-gives g c morsels answers =
    let patience = c.args.looking.now.patience in
    let first = g.P.Answers.given c.args.answers.now in
    let now = g.P.Answers.given c.loop-part.answers in
    let next = g.P.Answers.given c.next_answer.new.answers in
    let part = g.A.Part.stream c.in-Given.part in
    let after = g.A.Part.stream c.turn_counted.new.part in
    let is : c.turn_counted.result ≡ Ok Working = cc in
    let counted : GivesCounted patience part c.args.done (Ok Working) after = subst (λ (r : Result (Turn Parcel) Fault). GivesCounted patience part c.args.done r after) is c.turn_counted.ensures in
    let comes = c.in-Given.ensures.comes in
    let fresh : part ≡ morsel_stream morsels now = answers.each now c.in-Given.part comes.0 in
    let there : now < length morsels.rows = omega (arith, comes.1, c.loop-part.invariant.count, answers.count_is) in
    later_waits patience morsels c.args.done first now (c.loop-part.invariant.stood morsels answers) part fresh there after next comes.2 c.requires.few counted

pub returns-in-Err-clause-gives : goal.returns-in-Err-clause-gives
returns-in-Err-clause-gives g c morsels answers =
    let patience = c.args.looking.now.patience in
    let first = g.P.Answers.given c.args.answers.now in
    let now = g.P.Answers.given c.loop-part.answers in
    let part = g.A.Part.stream c.in-Given.part in
    let after = g.A.Part.stream c.turn_counted.new.part in
    let fault = c.in-Err.fault in
    let is : c.turn_counted.result ≡ Err fault = cc in
    let counted : GivesCounted patience part c.args.done (Err fault) after = subst (λ (r : Result (Turn Parcel) Fault). GivesCounted patience part c.args.done r after) is c.turn_counted.ensures in
    let comes = c.in-Given.ensures.comes in
    let fresh : part ≡ morsel_stream morsels now = answers.each now c.in-Given.part comes.0 in
    let there : now < length morsels.rows = omega (arith, comes.1, c.loop-part.invariant.count, answers.count_is) in
    later_refused patience morsels c.args.done first now (c.loop-part.invariant.stood morsels answers) part fresh there after fault 0 None counted

pub returns-then-is_over-clause-gives : goal.returns-then-is_over-clause-gives
returns-then-is_over-clause-gives g c morsels answers =
    let patience = c.args.looking.now.patience in
    let first = g.P.Answers.given c.args.answers.now in
    let now = g.P.Answers.given c.loop-part.answers in
    let next = g.P.Answers.given c.next_answer.new.answers in
    let part = g.A.Part.stream c.in-Given.part in
    let after = g.A.Part.stream c.turn_counted.new.part in
    let is : c.turn_counted.result ≡ Ok End = cc in
    let counted : GivesCounted patience part c.args.done (Ok End) after = subst (λ (r : Result (Turn Parcel) Fault). GivesCounted patience part c.args.done r after) is c.turn_counted.ensures in
    let comes = c.in-Given.ensures.comes in
    let fresh : part ≡ morsel_stream morsels now = answers.each now c.in-Given.part comes.0 in
    let there : now < length morsels.rows = omega (arith, comes.1, c.loop-part.invariant.count, answers.count_is) in
    let stood = later_ended patience morsels c.args.done first now (c.loop-part.invariant.stood morsels answers) part fresh there after next comes.2 counted in
    later_working patience morsels c.args.done first next stood next _ refl c.loop-part.invariant.none c.requires.few (c.is_over.ensures c.if-is_over.true)

pub loop-part-preserved : goal.loop-part-preserved
loop-part-preserved g c = record {
  ready = c.in-Given.ensures.ready;
  count = cc;
  none = c.loop-part.invariant.none;
  stood = λ morsels answers.
      let patience = c.args.looking.now.patience in
      let first = g.P.Answers.given c.args.answers.now in
      let now = g.P.Answers.given c.loop-part.answers in
      let next = g.P.Answers.given c.next_answer.new.answers in
      let part = g.A.Part.stream c.in-Given.part in
      let after = g.A.Part.stream c.turn_counted.new.part in
      let is : c.turn_counted.result ≡ Ok End = cc in
      let counted : GivesCounted patience part c.args.done (Ok End) after = subst (λ (r : Result (Turn Parcel) Fault). GivesCounted patience part c.args.done r after) is c.turn_counted.ensures in
      let comes = c.in-Given.ensures.comes in
      let fresh : part ≡ morsel_stream morsels now = answers.each now c.in-Given.part comes.0 in
      let there : now < length morsels.rows = omega (arith, comes.1, c.loop-part.invariant.count, answers.count_is) in
      later_ended patience morsels c.args.done first now (c.loop-part.invariant.stood morsels answers) part fresh there after next comes.2 counted;
}

pub loop-part-smaller : goal.loop-part-smaller
loop-part-smaller g c =
    let comes = c.in-Given.ensures.comes in
    omega (arith, comes.1, comes.2, c.in-Given.ensures.count)
