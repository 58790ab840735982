-- Inside: rows that were seen, each with the bucket of its key.
use Rattle.std.specs.Prelude.{◌≡◌, ◌≤◌, ◌<◌, ℕ, List, All, Option, Some, length}
use Rattle.hash_join.specs.declared.chains.OpenChains.{OpenChains}
use Rattle.hash_join.specs.declared.chains.OpenRepeats.{OpenRepeats}
use Rattle.hash_join.specs.declared.digests.SeenDigest.{SeenDigest}
use Rattle.hash_join.specs.declared.rights.Rights.{Rights}
use Rattle.hash_join.specs.declared.row_cache.CachedRow.{CachedRow}
use Rattle.hash_join.specs.declared.row_cache.RowCache.{RowCache}
use Rattle.hash_join.specs.Chains.{AreRepeats, HasLinked}
use Rattle.hash_join.specs.PairCache.{HaveCompared}
use Rattle.hash_join.specs.Hashes.{last_of}
use Rattle.hash_join.specs.Rights.{bucket_at, digest_at}

-- the key of a row has this bucket, which is no later than the last
pub record IsSeen (buckets : ℕ → Option ℕ) (last row bucket : ℕ) : Type 0 where
  pub is : buckets row ≡ Some bucket
  pub within : bucket ≤ last

-- of each row that is there the bucket was kept
abbrev pub AreBucketsKept : (ℕ → Option ℕ) → ℕ → ℕ → List CachedRow → Type 0
AreBucketsKept buckets last count rows =
    All (λ (seen : CachedRow). seen.row < count → IsSeen buckets last seen.row seen.bucket) rows

-- of each row that is there the digest of that part of its key was kept
abbrev pub AreDigests : (ℕ → ℕ → Option ℕ) → ℕ → List SeenDigest → Type 0
AreDigests digests count texts = All
    (λ (seen : SeenDigest). seen.row < count → digests seen.row seen.part ≡ Some seen.digest) texts

-- what was kept of rows that were seen is so
pub record AreKept (buckets : ℕ → Option ℕ) (last count : ℕ) (digests : ℕ → ℕ → Option ℕ)
    (seen : RowCache) : Type 0 where
  pub rows : AreBucketsKept buckets last count seen.rows.items
  pub texts : AreDigests digests count seen.digests.texts.items

-- the right rows from a row on are linked, and what is kept of right rows is so
pub record AreOpen (rights : Rights) (chains : OpenChains) (from : ℕ) : Type 0 where
  pub linked : HasLinked rights chains.heads.items chains.links.items from
  pub seen : AreKept (bucket_at rights) (last_of rights.buckets) (length rights.places.items)
      (digest_at rights) chains.seen

-- the rows that say so have the key of the next, and what is kept of right rows that were compared
-- is so
pub record AreOpenRepeats (rights : Rights) (links : List ℕ) (found : OpenRepeats) : Type 0 where
  pub repeats : AreRepeats rights links found.repeats.items
  pub compared : HaveCompared rights found.compared
