-- Inside: where a table goes among the others.
use Rattle.std.specs.Prelude.{◌≡◌, ◌≤◌, ℕ, List, ◌∷◌, ◌++◌, length, take, drop}
use Rattle.table_versions.specs.Table.{Name}
use Rattle.table_versions.specs.Database.{with_table}

-- a table of this name takes the place of the entries `from` up to, not with, `to`
pub record IsPlace {T : Type 0} (entries : List (Name × T)) (name : Name)
    (from to : ℕ) : Type 0 where
  pub ordered : from ≤ to
  pub within : to ≤ length entries
  pub replaced : (table : T) →
      with_table name table entries ≡ take from entries ++ (name, table) ∷ drop to entries
