-- The names of tables, in the rows that list them.
use Rattle.std.specs.Prelude.{List, ℕ, ◌∷◌, Result, Ok, Err}
use Rattle.scan_base.specs.declared.fault.Fault.{Fault}
use Rattle.scan_base.specs.declared.fault.Fault.TheVariants.{BadBatch}
use Rattle.scan_base.specs.declared.value.Value.{Value}
use Rattle.scan_base.specs.declared.value.Value.TheVariants.{Text}
use Rattle.scan_base.specs.Lists.{each}
use Rattle.table_versions.specs.Table.{Table}

-- the name that a row has, in its third cell
abbrev pub name_in : List Value → Result (List ℕ) Fault
name_in (catalog ∷ schema ∷ Text name ∷ others) = Ok name
name_in _ = Err BadBatch

-- the names that a table lists
abbrev pub names_listed : Table → Result (List (List ℕ)) Fault
names_listed table = each name_in table.rows
