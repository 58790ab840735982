use Rattle.std.proofs.Common.{IsTrue, length, nat_lt, sym, subst}
use Rattle.std.specs.List.{list_all}
use Rattle.arrays.specs.Batch.{BatchAt}
use Rattle.hash_join.proofs.key_codes.most_weight.Goals as goal

pub row_weight-requires : goal.row_weight-requires
row_weight-requires c =
    subst (λ (batch : BatchAt). IsTrue (list_all (λ column. nat_lt column (length batch.columns)) c.args.key.now)) (sym c.batch-item.is)
    (c.requires c.loop-batch.batch-index c.batch-item.result c.loop-batch-test.true)
