-- What messages leave after to those that come after them.
use Rattle.std.specs.Prelude.{ℕ, ◌==◌, List, [], ◌∷◌, Option, if◌then◌else◌}
use Rattle.scan_base.specs.declared.value.Value.{Value}
use Rattle.arrow_types.specs.declared.schema.Schema.{Schema}

-- the values of dictionaries, by their ids
abbrev pub Dictionaries : Type 0
Dictionaries = List (ℕ × List Value)

-- the values of a dictionary: before any message it has none
abbrev pub values_under : Dictionaries → ℕ → List Value
values_under [] id = []
values_under (entry ∷ entries) id = if entry.0 == id then entry.1 else values_under entries id

-- the same dictionaries, one of them with these values
abbrev pub with_values : ℕ → List Value → Dictionaries → Dictionaries
with_values id values [] = (id, values) ∷ []
with_values id values (entry ∷ entries) =
    if entry.0 == id then (id, values) ∷ entries else entry ∷ with_values id values entries

-- the schema, and the dictionaries as they now are
pub record Known : Type 0 where
  pub schema : Schema
  pub dictionaries : Dictionaries

-- nothing before the schema came
abbrev pub State : Type 0
State = Option Known
