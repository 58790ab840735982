-- Inside: parts of keys that were compared.
use Rattle.std.specs.Prelude.{◌≡◌, ◌<◌, ℕ, Bool, List, All, length, get_or}
use Rattle.scan_base.specs.declared.comparison.Comparison.TheVariants.{Equal}
use Rattle.scan_base.specs.declared.value.Value.{Value}
use Rattle.scan_base.specs.declared.value.Value.TheVariants.{Null}
use Rattle.scan_base.specs.Comparison.{compared}
use Rattle.scan_base.specs.Truth.{keeps}
use Rattle.hash_join.specs.declared.pair_cache.PairCache.{PairCache}
use Rattle.hash_join.specs.declared.pair_cache.CachedPair.{CachedPair}
use Rattle.hash_join.specs.declared.rights.Rights.{Rights}
use Rattle.hash_join.specs.declared.walk.Walk.{Walk}
use Rattle.hash_join.specs.KeyRows.{key_beside}
use Rattle.hash_join.specs.Rights.{key_at}

-- whether two keys are equal in a part
abbrev pub part_joins : List Value → List Value → ℕ → Bool
part_joins left right part = keeps (compared Equal (get_or left part Null) (get_or right part Null))

-- of each pair of rows that are there it is kept whether they are equal in that part
abbrev pub AreCompared : (ℕ → List Value) → ℕ → (ℕ → List Value) → ℕ → List CachedPair → Type 0
AreCompared lefts left_count rights right_count pairs =
    All (λ (seen : CachedPair). seen.left < left_count → seen.right < right_count →
    seen.equal ≡ part_joins (lefts seen.left) (rights seen.right) seen.part) pairs

-- what was kept of left rows of the batch and of right rows is so
abbrev pub HasCompared : Walk → PairCache → Type 0
HasCompared walk compared =
    AreCompared (key_beside walk.left) walk.left.batch.now.rows (key_at walk.rights.now)
    (length walk.rights.now.places.items) compared.pairs.items

-- what was kept of two right rows is so
abbrev pub HaveCompared : Rights → PairCache → Type 0
HaveCompared rights compared =
    AreCompared (key_at rights) (length rights.places.items) (key_at rights)
    (length rights.places.items) compared.pairs.items
