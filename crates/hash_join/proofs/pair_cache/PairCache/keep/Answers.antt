use Rattle.std.proofs.Common.{◌≡◌, sym, ap, ◌∙◌, arith}
use Rattle.hash_join.specs.PairCache.{part_joins}
use Rattle.hash_join.proofs.Pairing.{pair_kept}
use Rattle.hash_join.proofs.pair_cache.PairCache.keep.Goals as goal

pub returns-then-place-len : goal.returns-then-place-len
returns-then-place-len c =
    let at = c.args.at in
    let same : c.in-Ok.part ≡ at.part = omega (arith, c.in-Ok.ensures) in
    λ lefts rights left_count right_count is had.
    pair_kept lefts rights left_count right_count c.args.self.now.pairs.items c.args.place
    (record { left = at.left; right = at.right; part = c.in-Ok.part; equal = c.args.equal })
    (is ∙ ap (part_joins (lefts at.left) (rights at.right)) (sym same)) had
