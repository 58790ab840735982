use Rattle.std.proofs.Common.{◌≡◌, ◌+◌, ◌-◌, ℕ, arith}
use Rattle.grouping.specs.inside.Finishing.{groups_in}
use Rattle.grouping.proofs.Finishing.{next_made}
use Rattle.grouping.proofs.batches.GroupRows.next.Goals as goal

same : (from count : ℕ) → (from + count) - from ≡ count
same from count = omega arith

pub batch-requires-clause-named : goal.batch-requires-clause-named
batch-requires-clause-named c = λ item low. rw (same c.args.from c.in_ok-count.count) (c.in_ok-count.ensures.light item low).named

pub returns : goal.returns
returns c =
    next_made (groups_in c.args.self.now) c.args.from c.args.most c.in_ok-count.count _ c.batch.result (same c.args.from c.in_ok-count.count) c.in_ok-count.ensures c.requires.cells
    c.batch.ensures
