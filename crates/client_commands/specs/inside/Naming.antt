-- Inside: names of tables, as they are gathered.
use Rattle.std.specs.Prelude.{◌≡◌, ◌≢◌, ℕ, List, ◌++◌, Result, Ok, Err}
use Rattle.scan_base.specs.declared.fault.Fault.{Fault}
use Rattle.scan_base.specs.declared.fault.Fault.TheVariants.{OutOfMemory}
use Rattle.scan_base.specs.declared.value.Value.{Value}
use Rattle.scan_base.specs.Lists.{each}
use Rattle.client_commands.specs.Names.{name_in}

-- the names in these rows stand after the others; or one of them has none, or memory was refused
abbrev pub AddsNames : Result (Unit {0}) Fault → List (List ℕ) → List (List ℕ) →
    List (List Value) → Type 0
AddsNames (Ok done) old new rows =
    (names : List (List ℕ)) × (each name_in rows ≡ Ok names) × (new ≡ old ++ names)
AddsNames (Err fault) old new rows = fault ≢ OutOfMemory → each name_in rows ≡ Err fault
