-- Laws of databases and of lists of puts.
use Rattle.std.specs.Prelude.{◌≡◌, ◌≤◌, ℕ, if◌then◌else◌, List, [], ◌∷◌, ◌++◌, length, All, Some}
use Rattle.std.specs.Prelude.{Ok, Err}
use Rattle.std.specs.Str.{bytes_eq}
use Rattle.scan_base.specs.declared.fault.Fault.{Fault}
use Rattle.scan_base.specs.Limits.{most_rows}
use Rattle.table_versions.specs.Table.{Name, Table}
use Rattle.table_versions.specs.Order.{IsInOrder}
use Rattle.table_versions.specs.Database.{Database, Put, table_at, with_table, after}
use Rattle.table_versions.specs.Database.{database_after}
use Rattle.table_versions.specs.Database.{version_after, AreAccepted, logged}
use Rattle.table_versions.specs.Valid.{IsDatabase, IsPut, HasDatabases}

-- the table that was put is found at its name, and each other name has what it had
abbrev pub TablesAreFound : Type 0
TablesAreFound =
    (name other : Name) (table : Table) (database : Database) →
    table_at (with_table name table database) other
    ≡ (if bytes_eq name other then Some table else table_at database other)

-- after puts, an accepted one is logged, gives the database after them all, and changes no earlier
-- version, however many versions stand above the floor
abbrev pub LogsGrow : Type 0
LogsGrow =
    (n : ℕ) (puts : List Put) (put : Put) (database : Database) →
    after (database_after puts) n put ≡ Ok database →
    (logged n puts put ≡ puts ++ put ∷ []) × (database_after (logged n puts put) ≡ database)
    × ((k : ℕ) → k ≤ length puts → version_after (logged n puts put) k ≡ version_after puts k)

-- a refused put is not logged
abbrev pub LogsStay : Type 0
LogsStay =
    (n : ℕ) (puts : List Put) (put : Put) (fault : Fault) →
    after (database_after puts) n put ≡ Err fault → logged n puts put ≡ puts

-- no puts at all are accepted ones, and so are those that are logged after accepted ones
abbrev pub LogsHoldAcceptedPuts : Type 0
LogsHoldAcceptedPuts = AreAccepted []
    × ((n : ℕ) (puts : List Put) (put : Put) → AreAccepted puts → AreAccepted (logged n puts put))

-- the names of every version are in byte order, and each stands once
abbrev pub NamesAreInOrder : Type 0
NamesAreInOrder = (puts : List Put) → IsInOrder (database_after puts)

-- an accepted put has no more rows than a table may have
abbrev pub AcceptedPutsAreFew : Type 0
AcceptedPutsAreFew = (old : Database) (n : ℕ) (put : Put) (new : Database) →
    after old n put ≡ Ok new → length put.rows ≤ most_rows

-- an accepted put of rows of their columns' types leaves tables alone
abbrev pub AcceptedPutsKeepDatabases : Type 0
AcceptedPutsKeepDatabases =
    (old : Database) (n : ℕ) (put : Put) (new : Database) → IsDatabase old → IsPut put →
    after old n put ≡ Ok new → IsDatabase new

-- and so every version of such puts has tables alone
abbrev pub VersionsAreDatabases : Type 0
VersionsAreDatabases = (puts : List Put) → All IsPut puts → HasDatabases puts
