use Rattle.std.proofs.Common.{sym, subst}
use Rattle.arrow_types.specs.declared.schema.Schema.{Schema}
use Rattle.fetch_stream.specs.inside.RowsAhead.{AnsweredAs, schema_behind}
use Rattle.fetch_stream.specs.inside.BatchCuts.{Cuts}
use Rattle.fetch_stream.specs.inside.Steps.{HasNext}
use Rattle.fetch_stream.proofs.Stepping.{says_next}
use Rattle.fetch_stream.proofs.Streaming.{few_answered}
use Rattle.fetch_stream.proofs.stream.turn_of_rows.Goals as goal

pub next-requires-clause-few : goal.next-requires-clause-few
next-requires-clause-few c =
    let next : HasNext c.args.cutter.now c.args.source.now c.refill.new.cutter c.refill.new.source = rw (c.in_ok-refill.was, c.in-Given.is) at c.refill.ensures in
    few_answered (schema_behind c.refill.new.source) c.refill.new.cutter.batch.columns next.keeps.going.behind.schema (next.keeps.going.columns next.more)

pub next-requires-clause-answered : goal.next-requires-clause-answered
next-requires-clause-answered c =
    let next : HasNext c.args.cutter.now c.args.source.now c.refill.new.cutter c.refill.new.source = rw (c.in_ok-refill.was, c.in-Given.is) at c.refill.ensures in
    subst (λ (schema : Schema). AnsweredAs schema c.refill.new.cutter.batch.columns) (sym c.schema.ensures) (next.keeps.going.columns next.more)

pub returns-in_ok-next-in-Given : goal.returns-in_ok-next-in-Given
returns-in_ok-next-in-Given c =
    says_next c.batch_slices_keep_rows.ensures c.args.cutter.now c.args.source.now c.refill.new.cutter c.refill.new.source c.in_ok-next-in-Given.field-0 c.next.new.self
    (rw (c.in_ok-refill.was, c.in-Given.is) at c.refill.ensures)
    (subst (λ (schema : Schema). Cuts schema c.refill.new.cutter c.in_ok-next-in-Given.field-0 c.next.new.self) c.schema.ensures c.in_ok-next-in-Given.ensures.cut)
