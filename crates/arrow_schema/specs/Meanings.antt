-- What numbers stand for.
use Rattle.std.specs.Prelude.{ℕ, ◌==◌, List, [], ◌∷◌, Result, Ok, Err, if◌then◌else◌}
use Rattle.scan_base.specs.declared.fault.Fault.{Fault}
use Rattle.scan_base.specs.declared.fault.Fault.TheVariants.{UnsupportedArrow}

-- what a number stands for, among these
abbrev pub meaning_of : {A : Type 0} → List (ℕ × A) → ℕ → Result A Fault
meaning_of [] number = Err UnsupportedArrow
meaning_of (row ∷ rows) number = if number == row.0 then Ok row.1 else meaning_of rows number
