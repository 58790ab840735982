-- Inside: the versions of puts, each with its number.
use Rattle.std.specs.Prelude.{◌≡◌, ◌≤◌, ◌<◌, ℕ, ◌+◌, ◌^◌, List, [], ◌∷◌, drop}
use Rattle.table_versions.specs.Database.{Database, Put, with_put}
use Rattle.version_log.specs.Log.{Log, puts_of, puts_in, floor_of}
use Rattle.table_versions.specs.StoredTables.{VersionAt, tables_of}

-- the database after each of these puts, and how many were accepted up to it, where n were before
-- them
abbrev pub versions_from : Database → ℕ → List Put → List (ℕ × Database)
versions_from database n [] = []
versions_from database n (put ∷ puts) =
    (n + 1, with_put database put) ∷ versions_from (with_put database put) (n + 1) puts

-- version 0 and up
unfoldable pub versions_of : List Put → List (ℕ × Database)
versions_of puts = (0, []) ∷ versions_from [] 0 puts

-- the number of a version, and its database
abbrev pub numbered : VersionAt → ℕ × Database
numbered version = (version.number, tables_of version.catalog)

-- the versions of a log from its floor on, which the log reaches. The one after the newest has a
-- number of 64 bits.
pub record AreKept (from : ℕ) (kept : List (ℕ × Database)) (log : Log) : Type 0 where
  pub floor : from ≡ floor_of log
  pub versions : kept ≡ drop (floor_of log) (versions_of (puts_of log))
  pub there : floor_of log ≤ puts_in log
  pub few : puts_in log + 1 < 2 ^ 64
