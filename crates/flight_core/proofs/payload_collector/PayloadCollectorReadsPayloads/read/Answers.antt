use Rattle.std.proofs.Common.{◌≡◌, ◌++◌, List, Option, Some, None, Ok, Err, sym, ap, subst, rules}
use Rattle.std.proofs.lemmas.Result.{err_from_is_err_and}
use Rattle.scan_base.specs.declared.fault.Fault.TheVariants.{OutOfMemory}
use Rattle.flight_info.specs.Payloads.{Payload, FitMessages}
use Rattle.flight_info.proofs.Fitting.{none_fit}
use Rattle.fetch_stream.specs.Streams.{StreamAt, Parcel, Gives, GivesParcel, HasGiven, opened}
use Rattle.fetch_stream.proofs.Answering.{given_none, fewer_turns, gave, ended, given_more}
use Rattle.flight_core.proofs.Collecting.{all_fit, collected_before, collected_short}
use Rattle.flight_core.proofs.payload_collector.PayloadCollectorReadsPayloads.read.Goals as goal

pub loop-parcel-init : goal.loop-parcel-init
loop-parcel-init g c = record {
  given = λ answer same. (
    ap (λ (stream : StreamAt). stream.refused) same,
    subst (λ (stream : StreamAt). HasGiven answer c.args.self.now.payloads.items stream) (sym same)
        (subst (λ (payloads : List Payload). HasGiven answer payloads (opened answer)) (sym c.requires) (given_none answer)),
  );
  fits = subst FitMessages (sym c.requires) none_fit;
}

pub loop-parcel-smaller : goal.loop-parcel-smaller
loop-parcel-smaller g c =
    let stream = g.P.Payloads.stream in
    let before = stream c.loop-parcel.payloads in
    let after = stream c.next_parcel.new.payloads in
    let parcel = c.in-Some.parcel in
    let gives : Gives before (Ok (Some parcel)) after = subst (λ (found : Option Parcel). Gives before (Ok found) after) c.in-Some.is c.in_ok-parcel.ensures in
    fewer_turns before after parcel (gave before after parcel gives)

pub loop-parcel-preserved : goal.loop-parcel-preserved
loop-parcel-preserved g c =
    let stream = g.P.Payloads.stream in
    let before = stream c.loop-parcel.payloads in
    let after = stream c.next_parcel.new.payloads in
    let parcel = c.in-Some.parcel in
    let payloads = c.loop-parcel.self.payloads.items in
    let gives : GivesParcel before parcel after = gave before after parcel (subst (λ (found : Option Parcel). Gives before (Ok found) after) c.in-Some.is c.in_ok-parcel.ensures) in
    let pushed : c.push_parcel.new.payloads.items ≡ payloads ++ parcel = c.in_ok-push_parcel.ensures.ok in
    record {
      given = λ answer same. (
        gives.refused,
        subst (λ (all : List Payload). HasGiven answer all after) (sym pushed) (given_more answer payloads before after parcel (c.loop-parcel.invariant.given answer same).1 gives),
      );
      fits = subst FitMessages (sym pushed) (all_fit payloads parcel c.loop-parcel.invariant.fits gives.fits);
    }

pub returns-in_err-parcel : goal.returns-in_err-parcel
returns-in_err-parcel g c =
    let stream = g.P.Payloads.stream in
    let p = err_from_is_err_and c.from_residual.result c.from_residual.ensures.1 in
    record {
      said = λ answer same. rw (p.1, p.2) (collected_before answer c.loop-parcel.self.payloads.items (stream c.loop-parcel.payloads) (stream c.next_parcel.new.payloads) c.in_err-parcel.field-0.0 (c.loop-parcel.invariant.given answer same) c.in_err-parcel.ensures);
      fits = c.loop-parcel.invariant.fits;
    }

pub returns-in_err-push_parcel : goal.returns-in_err-push_parcel
returns-in_err-push_parcel g c =
    let short : c.from_residual-in_err-push_parcel.result ≡ Err OutOfMemory = search rules in
    let same_payloads : c.push_parcel.new.payloads.items ≡ c.loop-parcel.self.payloads.items = search rules in
    record {
      said = λ answer same. rw (short, same_payloads) (collected_short answer c.loop-parcel.self.payloads.items (g.P.Payloads.stream c.loop-parcel.payloads) (c.loop-parcel.invariant.given answer same).1);
      fits = subst FitMessages (sym same_payloads) c.loop-parcel.invariant.fits;
    }

pub returns : goal.returns
returns g c =
    let stream = g.P.Payloads.stream in
    let before = stream c.loop-parcel.payloads in
    let after = stream c.next_parcel.new.payloads in
    let gives : Gives before (Ok None) after = subst (λ (found : Option Parcel). Gives before (Ok found) after) c.in_default.is c.in_ok-parcel.ensures in
    let end = ended before after gives in
    record {
      said = λ answer same. record { stream = before; given = (c.loop-parcel.invariant.given answer same).1; stops = (end.0, end.1) };
      fits = c.loop-parcel.invariant.fits;
    }
