-- Inside: a left row that looks for its partners along a chain.
use Rattle.std.specs.Prelude.{◌≡◌, ◌<◌, ◌^◌, ℕ, Bool, true, List, Option, length, map}
use Rattle.std.specs.Prelude.{drop}
use Rattle.std.specs.List.{filter}
use Rattle.hash_join.specs.declared.pair.Pair.{Pair}
use Rattle.hash_join.specs.declared.walk.Walk.{Walk}
use Rattle.hash_join.specs.Pairs.{keys_join}
use Rattle.hash_join.specs.Hashes.{bucket_of, key_digest}
use Rattle.hash_join.specs.KeyRows.{key_beside, row_key, IsKeyRow}
use Rattle.hash_join.specs.Rights.{key_from, place_at, bucket_at, AreRights}
use Rattle.hash_join.specs.Chains.{stands, AreRepeats, HasLinked}

-- whether the left row joins the right row at a place
abbrev pub joins_at : Walk → ℕ × ℕ → Bool
joins_at walk place = keys_join (row_key walk.left) (key_from walk.rights.now place)

-- the pair of the left row with the right row at a place
abbrev pub pair_at : Walk → ℕ × ℕ → Pair
pair_at walk place = record { left = walk.left.row; batch = place.0; row = place.1 }

-- the pairs with right rows from a row on
abbrev pub pairs_past : Walk → ℕ → List Pair
pairs_past walk from =
    map (pair_at walk) (filter (joins_at walk) (drop from walk.rights.now.places.items))

-- the bucket of the left row
abbrev pub bucket_left : Walk → Option ℕ
bucket_left walk = bucket_of walk.rights.now.buckets (row_key walk.left)

-- the digests of parts of the keys of left rows in the batch
abbrev pub digest_left : Walk → ℕ → ℕ → Option ℕ
digest_left walk = key_digest walk.rights.now.buckets (key_beside walk.left)

-- whether a right row stands in the left row's chain
abbrev pub in_chain : Walk → ℕ → Bool
in_chain walk row = stands (bucket_left walk) (bucket_at walk.rights.now row)

-- the left row joins each right row of its chain
abbrev pub JoinsChain : Walk → Type 0
JoinsChain walk = (row : ℕ) → row < length walk.rights.now.places.items → in_chain walk row ≡ true →
    joins_at walk (place_at walk.rights.now row) ≡ true

-- the right rows are linked, and the left row has a key of as many parts
pub record IsWalk (walk : Walk) : Type 0 where
  pub whole : AreRights walk.rights.now
  pub linked : HasLinked walk.rights.now walk.chains.now.heads.items walk.chains.now.links.items 0
  pub repeats : AreRepeats walk.rights.now walk.chains.now.links.items walk.chains.now.repeats.items
  pub left : IsKeyRow walk.left
  pub alike : length walk.left.key.now ≡ length walk.rights.now.key.items
  pub small : walk.left.row < 2 ^ 32
  pub few : walk.left.batch.now.rows < 2 ^ 32
