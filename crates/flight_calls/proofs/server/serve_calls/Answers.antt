use Rattle.std.proofs.Common.{refl, rules}
use Rattle.grpc_frame.proofs.Outgoing.{all_written, begun_written, failed_once, quiet_then}
use Rattle.flight_calls.specs.Calls.{asked_by}
use Rattle.flight_calls.proofs.Serving.{started, call_served, answer_failed, input_ended, call_cut_short, ended_by}
use Rattle.flight_calls.proofs.Keeping.{written}
use Rattle.flight_calls.proofs.server.serve_calls.Goals as goal

pub loop-request-init : goal.loop-request-init
loop-request-init g c = record {
  progress = started g.B.Backend.moves _ _ _ c.of_server-inbox.ensures;
  reads = refl;
  empty = c.requires.empty;
  quiet = record { writer = refl; failures = refl };
}

pub returns-in-Ok-Nothing-clause-serves : goal.returns-in-Ok-Nothing-clause-serves
returns-in-Ok-Nothing-clause-serves g c =
    input_ended g.B.Backend.moves _ _ _ _ c.loop-request.invariant.progress _ c.read_call.new.inbox (rw c.in-Ok-Nothing.field-0-is at c.in-Ok-Nothing.ensures.arrives) (search rules) refl refl (search rules, search rules)

pub returns-in-Ok-CutShort-clause-serves : goal.returns-in-Ok-CutShort-clause-serves
returns-in-Ok-CutShort-clause-serves g c =
    call_cut_short g.B.Backend.moves _ _ _ _ c.loop-request.invariant.progress _ c.read_call.new.inbox (rw c.in-Ok-CutShort.field-0-is at c.in-Ok-CutShort.ensures.arrives) (search rules) refl refl (search rules, search rules)

pub returns-in-Err-clause-serves : goal.returns-in-Err-clause-serves
returns-in-Err-clause-serves g c =
    ended_by g.B.Backend.moves _ _ _ _ c.loop-request.invariant.progress _ c.read_call.new.inbox c.in-Err.fault _ _ _ _ _ c.in-Err.ensures.arrives c.in-Err.ensures.counted c.refuse.ensures.refuses refl c.loop-request.invariant.reads c.loop-request.invariant.quiet.failures refl refl

pub returns-in_default-clause-serves : goal.returns-in_default-clause-serves
returns-in_default-clause-serves g c =
    let came = rw c.in-Ok-Whole.field-0-is at c.in-Ok-Whole.ensures.arrives in
    let replies = c.answer-answer.ensures.reply in
    let responds = replies came.2.0 came.2.1 in
    let wrote = c.in_default.ensures.bytes (asked_by c.args.setting.now.options came.2.0) _ _ responds.reacts.answered in
    let responded = written g.B.Backend.moves _ _ _ _ _ wrote.reply responds wrote.right.0 wrote.right.1 in
    answer_failed g.B.Backend.moves _ _ _ _ c.loop-request.invariant.progress _ c.read_call.new.inbox c.in-Ok-Whole.request wrote.reply came responded wrote.fits
    (begun_written _ _ _ c.loop-request.invariant.empty wrote.sent.1) (search rules, failed_once _ _ _ c.requires.writes c.loop-request.invariant.quiet wrote.sent.1.failed)

pub loop-request-preserved : goal.loop-request-preserved
loop-request-preserved g c =
    let came = rw c.in-Ok-Whole.field-0-is at c.in-Ok-Whole.ensures.arrives in
    let replies = c.answer-answer.ensures.reply in
    let responds = replies came.2.0 came.2.1 in
    let wrote = c.in-Ok.ensures.bytes (asked_by c.args.setting.now.options came.2.0) _ _ responds.reacts.answered in
    let responded = written g.B.Backend.moves _ _ _ _ _ wrote.reply responds wrote.right.0 wrote.right.1 in
    let all = all_written _ _ _ c.loop-request.invariant.empty c.in-Ok.ensures.written wrote.sent in
    let progress = call_served g.B.Backend.moves _ _ _ _ c.loop-request.invariant.progress _ c.read_call.new.inbox c.in-Ok-Whole.request wrote.reply came responded wrote.fits all in
    record {
      progress = progress;
      reads = search rules;
      empty = c.in-Ok.ensures.written;
      quiet = quiet_then _ _ _ c.loop-request.invariant.quiet wrote.sent.quiet;
    }
