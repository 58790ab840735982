use Rattle.std.proofs.Common.{None, Some, refl, ◌∙◌, arith}
use Rattle.std.proofs.lemmas.Result.{err_from_is_err_and}
use Rattle.client_calls.specs.Taking.{with_batch}
use Rattle.client_calls.proofs.Next.{keeps_both, on_answer, on_end, on_payload, on_stop}
use Rattle.client_calls.proofs.fetch_piece.take_batch.Goals as goal

pub returns-in_err-batch-clause-takes : goal.returns-in_err-batch-clause-takes
returns-in_err-batch-clause-takes g c whole a old is has =
    let i = c.loop-batch.invariant in
    let p = err_from_is_err_and c.from_residual.result c.from_residual.ensures.1 in
    rw (p.1, p.2) (on_stop (with_batch whole c.loop-batch.stream None) a _ _ _ _ _ old _ _ (i.takes whole a old is has) i.count c.loop-batch.stream c.take_payload.new.stream refl c.in_err-batch.field-0.0 c.in_err-batch.ensures.takes)

pub returns-in_err-batch-clause-kept : goal.returns-in_err-batch-clause-kept
returns-in_err-batch-clause-kept g c = keeps_both _ _ _ c.loop-batch.invariant.kept c.in_err-batch.ensures.kept

pub returns-in-Ok-Payload-Some-clause-takes : goal.returns-in-Ok-Payload-Some-clause-takes
returns-in-Ok-Payload-Some-clause-takes g c whole a old is has =
    let i = c.loop-batch.invariant in
    let took = c.in-Ok-Payload-Some in
    let takes = rw (took.is, took.field-0-is, took.field-0-0-is) at c.in_ok-batch.ensures.takes in
    on_payload (with_batch whole c.loop-batch.stream None) a _ _ _ _ _ old _ _ (i.takes whole a old is has) i.count c.loop-batch.stream c.take_payload.new.stream refl (Some took.batch) takes

pub returns-in-Ok-Payload-Some-clause-kept : goal.returns-in-Ok-Payload-Some-clause-kept
returns-in-Ok-Payload-Some-clause-kept g c = keeps_both _ _ _ c.loop-batch.invariant.kept c.in_ok-batch.ensures.kept

pub loop-batch-preserved : goal.loop-batch-preserved
loop-batch-preserved g c =
    let i = c.loop-batch.invariant in
    let took = c.in-Ok-Payload-None in
    let takes = rw (took.is, took.field-0-is, took.field-0-0-is) at c.in_ok-batch.ensures.takes in
    record {
      place = c.in_ok-batch.ensures.place;
      count = takes.2.1.1 ∙ i.count;
      takes = λ whole a old is has. (on_payload (with_batch whole c.loop-batch.stream None) a _ _ _ _ _ old _ _ (i.takes whole a old is has) i.count c.loop-batch.stream c.take_payload.new.stream refl None takes).0;
      kept = keeps_both _ _ _ i.kept c.in_ok-batch.ensures.kept;
      low = omega (arith, c.in_ok-batch.ensures.fewer, i.low);
    }

pub returns-in-Ok-End-clause-takes : goal.returns-in-Ok-End-clause-takes
returns-in-Ok-End-clause-takes g c whole a old is has =
    let i = c.loop-batch.invariant in
    let took = c.in-Ok-End in
    let takes = rw (took.is, took.field-0-is) at c.in_ok-batch.ensures.takes in
    on_end (with_batch whole c.loop-batch.stream None) a _ _ _ _ _ old _ _ (i.takes whole a old is has) i.count c.loop-batch.stream c.take_payload.new.stream refl takes

pub returns-in-Err-clause-takes : goal.returns-in-Err-clause-takes
returns-in-Err-clause-takes g c whole a old is has =
    let i = c.loop-batch.invariant in
    let takes = rw c.in-Err.is at c.in_ok-batch.ensures.takes in
    on_answer (with_batch whole c.loop-batch.stream None) a _ _ _ _ _ old _ _ (i.takes whole a old is has) i.count c.loop-batch.stream c.take_payload.new.stream refl c.in-Err.failure takes

pub returns-in-Err-clause-kept : goal.returns-in-Err-clause-kept
returns-in-Err-clause-kept g c = keeps_both _ _ _ c.loop-batch.invariant.kept c.in_ok-batch.ensures.kept
