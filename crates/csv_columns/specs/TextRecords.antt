-- The records of a CSV text: the kit's `csv` says what they are, for commas, double quotes and
-- lines that end by CR, LF or both.
use Rattle.std.specs.Prelude.{◌≡◌, ℕ, Bool, true, false, List, [], ◌∷◌, Result, Ok, Err}
use Rattle.csv.specs.Reading.{default_config, records, strip_bom}

-- the records of a text, each a list of fields; a byte order mark before them is no part of it
abbrev pub records_in : List ℕ → List (List (List ℕ))
records_in text = records default_config (strip_bom text)

-- a record was taken from those that were left; or there is none; or memory was refused
abbrev pub TakesRecord : {E : Type 0} → Result Bool E → List (List (List ℕ)) → List (List ℕ) →
    List (List (List ℕ)) → Type 0
TakesRecord (Ok true) old fields new = old ≡ fields ∷ new
TakesRecord (Ok false) old fields new = old ≡ []
TakesRecord (Err error) old fields new = new ≡ []
