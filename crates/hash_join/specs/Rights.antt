-- Inside: the rows of the right side by their numbers over all batches, as the code keeps them.
use Rattle.std.specs.Prelude.{◌≡◌, ◌≤◌, ◌<◌, ◌^◌, ℕ, List, Option, All, IsTrue, length, get_or}
use Rattle.std.specs.Prelude.{nat_lt}
use Rattle.std.specs.List.{list_all}
use Rattle.scan_base.specs.Limits.{most_rows}
use Rattle.scan_base.specs.declared.value.Value.{Value}
use Rattle.arrays.specs.Batch.{BatchAt}
use Rattle.hash_join.specs.declared.rights.Rights.{Rights}
use Rattle.hash_join.specs.Hashes.{bucket_of, key_digest, last_of}
use Rattle.hash_join.specs.Pairs.{key_values, places, row_at}

-- the place of a row
abbrev pub place_at : Rights → ℕ → ℕ × ℕ
place_at rights number = get_or rights.places.items number (0, 0)

-- the key of the row at a place
abbrev pub key_from : Rights → ℕ × ℕ → List Value
key_from rights place = key_values rights.key.items (row_at rights.batches.items place)

-- the key of a row
abbrev pub key_at : Rights → ℕ → List Value
key_at rights number = key_from rights (place_at rights number)

-- the bucket of a row; none where a part of its key is null
abbrev pub bucket_at : Rights → ℕ → Option ℕ
bucket_at rights number = bucket_of rights.buckets (key_at rights number)

-- the digests of parts of the rows' keys
abbrev pub digest_at : Rights → ℕ → ℕ → Option ℕ
digest_at rights = key_digest rights.buckets (key_at rights)

-- the places are those of the rows of the batches, few enough to be counted, and each batch has the
-- columns of the key
pub record AreRights (rights : Rights) : Type 0 where
  pub places : rights.places.items ≡ places rights.batches.items
  pub few : length rights.places.items ≤ most_rows
  pub columns : All (λ (batch : BatchAt).
      IsTrue (list_all (λ column. nat_lt column (length batch.columns)) rights.key.items))
      rights.batches.items
  pub last : last_of rights.buckets < 2 ^ 32
