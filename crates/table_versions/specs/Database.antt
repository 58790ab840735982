-- The database after a put, and after a log of puts.
use Rattle.std.specs.Prelude.{◌≡◌, ℕ, ◌+◌, ◌==◌, Bool, false, not, ◌&&◌, ◌||◌, if◌then◌else◌, List}
use Rattle.std.specs.Prelude.{[], ◌∷◌, ◌++◌, length, take, slice_get, nat_lt, nat_le, Option, Some}
use Rattle.std.specs.Prelude.{None, is_some, Result, Ok, Err}
use Rattle.std.specs.List.{list_any}
use Rattle.std.specs.Str.{bytes_eq}
use Rattle.std.specs.Cmp.Lexicographic.{slice_cmp}
use Rattle.std.specs.Ordering.{nat_cmp, is_lt}
use Rattle.arrow_types.specs.declared.schema.Schema.{Schema}
use Rattle.scan_base.specs.declared.fault.Fault.{Fault}
use Rattle.scan_base.specs.declared.fault.Fault.TheVariants.{BadBatch, TableMissing, TableExists}
use Rattle.scan_base.specs.declared.fault.Fault.TheVariants.{SchemaMismatch, LimitReached}
use Rattle.scan_base.specs.Reading.{first_fault, unless}
use Rattle.scan_base.specs.Lists.{repeats}
use Rattle.scan_base.specs.declared.put_options.IfExists.{IfExists}
use Rattle.scan_base.specs.declared.put_options.IfExists.TheVariants.{Append}
use Rattle.scan_base.specs.declared.put_options.IfNotExist.{IfNotExist}
use Rattle.scan_base.specs.Limits.{most_name_bytes, most_rows, most_tables, most_commits}
use Rattle.scan_base.specs.PutOptions.{refuses_present, refuses_absent}
use Rattle.table_versions.specs.Table.{Name, Row, Table, same_name, same_fields, has_bad_cell}
use Rattle.table_versions.specs.Table.{is_long_text}

-- tables by name, in byte order of the names
abbrev pub Database : Type 0
Database = List (Name × Table)

-- the table of a name, of plain tables and of stored ones
abbrev pub table_at : {T : Type 0} → List (Name × T) → Name → Option T
table_at [] name = None
table_at (entry ∷ entries) name =
    if bytes_eq entry.0 name then Some entry.1 else table_at entries name

-- with this table at a name, in its place by byte order
abbrev pub with_table : {T : Type 0} → Name → T → List (Name × T) → List (Name × T)
with_table name table [] = (name, table) ∷ []
with_table name table (entry ∷ entries) =
    if bytes_eq entry.0 name then (name, table) ∷ entries
    else (if is_lt (slice_cmp nat_cmp name entry.0) then (name, table) ∷ entry ∷ entries
    else entry ∷ with_table name table entries)

-- a put: the table's name, what to do where it is absent and where it is there, columns and rows
pub record Put : Type 0 where
  pub table : Name
  pub if_not_exist : IfNotExist
  pub if_exists : IfExists
  pub schema : Schema
  pub rows : List Row

-- the table after a put: an append goes on with the old rows, else the put's table stands alone
abbrev pub table_after : IfExists → Option Table → Put → Table
table_after Append (Some old) put = record { schema = old.schema; rows = old.rows ++ put.rows }
table_after _ _ put = record { schema = put.schema; rows = put.rows }

-- whether an append comes with other columns than the table's
abbrev pub differs : IfExists → Option Schema → Schema → Bool
differs Append (Some old) new = not (same_fields old.fields new.fields)
differs _ _ new = false

-- the columns of a table that is there
abbrev pub columns_of : Option Table → Option Schema
columns_of (Some table) = Some table.schema
columns_of None = None

-- why a put is refused, in this order, where this is the table of its name, there are so many
-- tables, and n versions stand above the floor
abbrev pub faults_at : Option Table → ℕ → ℕ → Put → List (Bool × Fault)
faults_at there tables n put =
    (length put.table == 0 || nat_lt most_name_bytes (length put.table), LimitReached) ∷
    (is_some there && refuses_present put.if_exists, TableExists) ∷
    (not (is_some there) && refuses_absent put.if_not_exist, TableMissing) ∷ (
      repeats same_name put.schema.fields || differs put.if_exists (columns_of there) put.schema,
      SchemaMismatch,
    ) ∷
    (list_any (has_bad_cell put.schema.fields) put.rows, BadBatch) ∷
    (list_any (list_any is_long_text) put.rows, LimitReached) ∷
    (nat_lt most_rows (length (table_after put.if_exists there put).rows), LimitReached) ∷
    (not (is_some there) && nat_le most_tables tables, LimitReached) ∷
    (nat_le most_commits n, LimitReached) ∷ []

-- why a put is refused at a database, where n versions stand above the floor
abbrev pub put_faults : Database → ℕ → Put → List (Bool × Fault)
put_faults database n put = faults_at (table_at database put.table) (length database) n put

-- the database after a put, or the first fault, where n versions stand above the floor
abbrev pub after : Database → ℕ → Put → Result Database Fault
after database n put =
    unless (first_fault (put_faults database n put))
    (with_table put.table (table_after put.if_exists (table_at database put.table) put) database)

-- a refused put leaves everything
abbrev pub accepted : Database → Result Database Fault → Database
accepted old (Ok new) = new
accepted old (Err fault) = old

-- the database with a put, which no number of versions refuses
abbrev pub with_put : Database → Put → Database
with_put database put = accepted database (after database 0 put)

-- the database with these puts
abbrev pub with_all : Database → List Put → Database
with_all database [] = database
with_all database (put ∷ puts) = with_all (with_put database put) puts

-- the database after puts, of which those that the tables refuse are passed over
abbrev pub database_after : List Put → Database
database_after puts = with_all [] puts

-- version n is the database after the first n puts
abbrev pub version_after : List Put → ℕ → Database
version_after puts n = database_after (take n puts)

-- the tables refuse none of these puts: put n gives version n + 1 at version n
abbrev pub AreAccepted : List Put → Type 0
AreAccepted puts = (n : ℕ) (put : Put) → slice_get puts n ≡ Some put →
    after (version_after puts n) 0 put ≡ Ok (version_after puts (n + 1))

-- the puts after one more, where n versions stand above the floor: an accepted one stands at their
-- end, and a refused one changes nothing
abbrev pub logged : ℕ → List Put → Put → List Put
logged n puts put = going (after (database_after puts) n put)
  where
    going : Result Database Fault → List Put
    going (Ok database) = puts ++ put ∷ []
    going (Err fault) = puts
