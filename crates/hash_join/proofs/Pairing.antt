-- Pairs of rows that are kept with what was compared of them.
use Rattle.std.proofs.Common.{◌≡◌, ◌<◌, ℕ, List, slice_set}
use Rattle.std.proofs.lemmas.List.Elements.{All-set}
use Rattle.scan_base.specs.declared.value.Value.{Value}
use Rattle.hash_join.specs.declared.pair_cache.CachedPair.{CachedPair}
use Rattle.hash_join.specs.PairCache.{part_joins, AreCompared}

-- one pair more is kept
pub pair_kept : (lefts rights : ℕ → List Value) (left_count right_count : ℕ) (pairs : List CachedPair) (place : ℕ) (seen : CachedPair) →
    seen.equal ≡ part_joins (lefts seen.left) (rights seen.right) seen.part → AreCompared lefts left_count rights right_count pairs →
    AreCompared lefts left_count rights right_count (slice_set pairs place seen)
pair_kept lefts rights left_count right_count pairs place seen is had =
    All-set (λ (other : CachedPair). other.left < left_count → other.right < right_count → other.equal ≡ part_joins (lefts other.left) (rights other.right) other.part)
    pairs place seen (λ there also. is) had
