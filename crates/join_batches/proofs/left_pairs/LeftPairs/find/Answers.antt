use Rattle.std.proofs.Common.{nat_lt, ap, ◌∙◌}
use Rattle.std.specs.List.{list_all}
use Rattle.join_batches.proofs.Giving.{left_key}
use Rattle.join_batches.proofs.left_pairs.LeftPairs.find.Goals as goal

pub next_pairs-requires-clause-key : goal.next_pairs-requires-clause-key
next_pairs-requires-clause-key c = λ some.
    ap (list_all (λ column. nat_lt column _)) c.as_slice.ensures.value ∙ left_key c.args.sides.now c.args.self.now c.requires.built c.requires.left some
