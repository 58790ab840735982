-- Inside: texts that end with no mark.
use Rattle.std.specs.Prelude.{◌≢◌, ℕ, Bool as Truth, true, false, List, ◌++◌}
use Rattle.csv_columns.specs.SpelledColumns.{mark_of}

-- a text whose mark was not taken off ends with none
abbrev pub IsUnmarked : Truth → List ℕ → Type 0
IsUnmarked true text = Unit {0}
IsUnmarked false text = (front : List ℕ) → text ≢ front ++ mark_of true
