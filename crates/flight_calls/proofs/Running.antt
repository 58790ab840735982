-- The answers of a connection as a run of the core.
use Rattle.std.proofs.Common.{◌≡◌, List, [], ◌∷◌, Result, Ok, Err, ap, subst, sym}
use Rattle.scan_base.specs.declared.fault.Fault.{Fault}
use Rattle.flight_core.specs.Asked.{Asked}
use Rattle.flight_info.specs.Replies.{ReplyAt}
use Rattle.version_log.specs.Log.{Log}
use Rattle.flight_core.specs.Machine.{Run}
use Rattle.flight_core.specs.Headline.{RunsMeetHeadline}
use Rattle.flight_core.specs.Seats.{Seat, alone}
use Rattle.flight_core.specs.Machine.{ReplyTo}
use Rattle.flight_calls.specs.Exchanges.{Exchange, with_asked, asked_in, with_reply, replies_in}
use Rattle.flight_calls.specs.Laws.{AnswersAreARun, ServedMeetsHeadline}
use Rattle.flight_calls.proofs.Exchanging.{Steps, exchanged}

-- one call, which asks or is refused, before a run
runs_on : (asked : Result Asked Fault) (reply : ReplyAt) (old middle new : Log) (more : List Asked) (replies : List ReplyAt) → ReplyTo asked old reply middle → Run middle more replies new
    → Run old (with_asked asked more) (with_reply asked reply replies) new
runs_on (Ok asked) reply old middle new more replies step run = (middle, step, run)
runs_on (Err fault) reply old middle new more replies step run = subst (λ (log : Log). Run log more replies new) step.0 run

step_between : (asked : Result Asked Fault) (reply : ReplyAt) (log next old new : Log) → log ≡ old → next ≡ new → ReplyTo asked log reply next → ReplyTo asked old reply new
step_between asked reply log next old new a b step = rw (sym a, sym b) step

steps_run : (old new : Seat) (all : List Exchange) → Steps alone old all new → Run old.log (asked_in all) (replies_in all) new.log
steps_run old new [] same = ap (λ (seat : Seat). seat.log) same
steps_run old new (one ∷ more) s =
    let r = s.1 in
    runs_on one.asked one.reply old.log s.0.log new.log (asked_in more) (replies_in more)
    (step_between one.asked one.reply r.log r.after old.log s.0.log r.goes.moved.0 r.goes.moved.1 r.step) (steps_run s.0 new more s.2)

pub answers_run : AnswersAreARun
answers_run options old new calls replies answers =
    let e = exchanged alone options old new calls replies answers in
    (e.all, e.are, steps_run old new e.all e.steps)

-- of a connection whose log was empty
pub served_headline : RunsMeetHeadline → ServedMeetsHeadline
served_headline law options result old new s empty =
    let e = exchanged alone options old.seat new.seat s.calls s.replies s.answers in (
      e.all,
      e.are,
      law (asked_in e.all) (replies_in e.all) new.seat.log
          (subst (λ (log : Log). Run log (asked_in e.all) (replies_in e.all) new.seat.log) empty (steps_run old.seat new.seat e.all e.steps)),
    )
