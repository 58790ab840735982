-- What a contract sees of an index, and what an index keeps.
use Rattle.std.specs.Prelude.{◌≡◌, ℕ, ◌≤◌, ◌+◌, ◌-◌, List, length, Some, slice_get}
use Rattle.scan_base.specs.Limits.{most_commits}
use Rattle.table_versions.specs.StoredTables.{CatalogAt, VersionAt}

-- the number of the oldest version that is there, and the tables of all versions from it on
pub record IndexAt : Type 0 where
  pub floor : ℕ
  pub versions : List CatalogAt

abbrev pub index_at : ℕ → List CatalogAt → IndexAt
index_at floor versions = record { floor = floor; versions = versions }

-- inside: this is the last of the versions
pub record IsNewest (index : IndexAt) (newest : VersionAt) : Type 0 where
  pub last : newest.number + 1 ≡ index.floor + length index.versions
  pub kept : index.floor ≤ newest.number
  pub tables : slice_get index.versions (newest.number - index.floor) ≡ Some newest.catalog
  pub few : length index.versions ≤ most_commits + 1
