use Rattle.std.proofs.Common.{refl, inr, arith}
use Rattle.scan_exec.specs.Giving.{GivesBatch}
use Rattle.scan_exec.specs.Answering.{giving_at}
use Rattle.scan_exec.proofs.Scanning.{batch_few}
use Rattle.scan_exec.proofs.scan.turn_counted.Goals as goal

pub returns-then-rows-given-clause-counts : goal.returns-then-rows-given-clause-counts
returns-then-rows-given-clause-counts c =
    let gives : GivesBatch (giving_at c.args.answer.now) c.in-Given.batch (giving_at c.turn.new.self) = rw (c.in_ok-batch.was, c.in-Given.is) at c.turn.ensures.gives in
    let few = batch_few (giving_at c.args.answer.now) c.in-Given.batch (giving_at c.turn.new.self) gives in
    (gives.on, c.requires.few, inr (refl, omega (arith, few, c.rows.ensures, c.if-rows-given.true, c.requires.few)))

pub returns-in-Working-clause-counts : goal.returns-in-Working-clause-counts
returns-in-Working-clause-counts c =
    let yet = rw (c.in_ok-batch.was, c.in-Working.is) at c.turn.ensures.gives in
    (yet.0, refl, yet.1)
