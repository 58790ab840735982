use Rattle.std.proofs.Common.{◌≡◌, ◌+◌, ◌*◌, ◌∷◌, [], ℕ, List, length, get_or, sym, ap, subst, arith}
use Rattle.std.proofs.lemmas.List.{length-append}
use Rattle.hash_join.specs.Ranks.{rank_at}
use Rattle.hash_join.proofs.Ranking.{rank_word, rank_few, counts_more}
use Rattle.hash_join.proofs.ranks.counts_before.Goals as goal

pub overflow_add-ones : goal.overflow_add-ones
overflow_add-ones c =
    let bits = c.args.bits.now in
    omega (arith, c.count_range-ones.ensures, rank_word bits c.loop-word.word, c.loop-word.invariant.ones, rank_few bits (64 * (c.loop-word.word + 1)), c.requires)

pub loop-word-preserved : goal.loop-word-preserved
loop-word-preserved c =
    let bits = c.args.bits.now in
    let word = c.loop-word.word in
    let before = c.loop-word.before.items in
    record {
      long = omega (arith, ap length c.in_ok-push.ensures.items, length-append before (c.loop-word.ones ∷ []), c.loop-word.invariant.long);
      counts = λ w low. subst (λ (counts : List ℕ). get_or counts w 0 ≡ rank_at bits (64 * w)) (sym c.in_ok-push.ensures.items)
          (counts_more bits before word c.loop-word.ones c.loop-word.invariant.long c.loop-word.invariant.counts c.loop-word.invariant.ones w low);
      ones = omega (arith, c.count_range-ones.ensures, rank_word bits word, c.loop-word.invariant.ones);
    }
