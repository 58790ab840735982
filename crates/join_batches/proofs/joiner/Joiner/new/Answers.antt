use Rattle.std.proofs.Common.{ℕ, get_or, nat_lt, ap, ◌∙◌}
use Rattle.std.specs.List.{list_all}
use Rattle.join_batches.proofs.Typed.{typed_long}
use Rattle.join_batches.proofs.joiner.Joiner.new.Goals as goal

pub new-requires-clause-there : goal.new-requires-clause-there
new-requires-clause-there g c = λ k d h.
    ap (λ (n : ℕ). list_all (λ column. nat_lt column n) c.args.seeded.sides.right.key.items)
    (typed_long c.args.seeded.sides.right.types.items (get_or c.args.batches.items k d).columns (c.requires.typed k d h)) ∙ c.requires.right
