use Rattle.std.proofs.Common.{◌≡◌, ℕ, true, false, get_or, ap, sym, ◌∙◌, arith}
use Rattle.hash_join.proofs.Ranking.{rank_within}
use Rattle.hash_join.proofs.ranks.Ranks.own_bucket.Goals as goal

pub returns-then-is_key-clause-within : goal.returns-then-is_key-clause-within
returns-then-is_key-clause-within c =
    let ranks = c.args.self.now in
    let one : get_or ranks.keys c.place.result false ≡ true = ap (λ (at : ℕ). get_or ranks.keys at false) c.place.ensures.place ∙ sym c.is_key.ensures ∙ c.if-is_key.true in
    omega (arith, c.rank.ensures, ranks.some, rank_within ranks.keys c.place.result one)
