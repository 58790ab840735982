use Rattle.std.proofs.Common.{IsTrue, length, nat_lt, sym, subst}
use Rattle.std.specs.List.{list_all}
use Rattle.arrays.specs.Batch.{BatchAt}
use Rattle.hash_join.proofs.spans.Span.of.Goals as goal

pub take_numbers-requires-clause-there : goal.take_numbers-requires-clause-there
take_numbers-requires-clause-there c =
    subst (λ (batch : BatchAt). IsTrue (list_all (λ column. nat_lt column (length batch.columns)) c.args.key.now)) (sym c.batch-item.is)
    (c.requires.there c.loop-batch.batch-index c.batch-item.result c.loop-batch-test.true)
