-- Inside: the versions of a log, and those that an index has.
use Rattle.std.specs.Prelude.{◌≡◌, List, [], ◌∷◌, drop, map}
use Rattle.table_versions.specs.Database.{Database, Put, with_put}
use Rattle.version_log.specs.Log.{Log, puts_of, floor_of}
use Rattle.table_versions.specs.StoredTables.{tables_of}
use Rattle.version_log.specs.Index.{IndexAt}

-- this database, and those after each of these puts
abbrev pub versions_from : Database → List Put → List Database
versions_from database [] = database ∷ []
versions_from database (put ∷ puts) = database ∷ versions_from (with_put database put) puts

unfoldable pub versions_of : List Put → List Database
versions_of puts = versions_from [] puts

-- the versions of a log from its floor on
pub record IsIndexOf (index : IndexAt) (log : Log) : Type 0 where
  pub floor : index.floor ≡ floor_of log
  pub tables : map tables_of index.versions ≡ drop (floor_of log) (versions_of (puts_of log))
