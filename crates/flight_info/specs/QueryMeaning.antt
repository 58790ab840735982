-- What a text asks of a database, what that means, and what answers what is wanted.
use Rattle.std.specs.Prelude.{◌≡◌, ◌≤◌, ◌⊎◌, ℕ, true, List, length, Some, None, Ok, Err}
use Rattle.scan_base.specs.declared.fault.Fault.{Fault}
use Rattle.sql_parse.specs.Parse.{Parsed}
use Rattle.sql_query.specs.Sentence.{Sentence, is_grouped}
use Rattle.table_versions.specs.Table.{Table}
use Rattle.table_versions.specs.Database.{Database}
use Rattle.query_binder.specs.NameRules.{fault_of}
use Rattle.typed_plan.specs.JoinedRows.{place_rows}
use Rattle.typed_plan.specs.Meaning.{meaning}
use Rattle.query_binder.specs.ResultSchema.{result_schema}
use Rattle.flight_proto.specs.InfoCommand.{InfoCommand, rows_of, tables}
use Rattle.flight_info.specs.Tables.{tables_listed}

-- a text asks the sentence that it says of a database: its names and types are bound without a
-- fault
pub record AsksSentence (database : Database) (text : List ℕ) (query : Sentence) : Type 0 where
  pub says : Parsed (λ s. s) text (Ok query)
  pub bound : fault_of query database ≡ None

-- how many rows the first place of a query has
abbrev pub first_rows : Database → Sentence → ℕ
first_rows database query = length (place_rows database query.first)

-- the rows `from` up to, not with, `to` are rows of the first place; a query that is grouped has
-- one range, the whole
pub record IsRange (database : Database) (query : Sentence) (from to : ℕ) : Type 0 where
  pub ordered : from ≤ to
  pub within : to ≤ first_rows database query
  pub whole : is_grouped query ≡ true → (from ≡ 0) × (to ≡ first_rows database query)

-- the rows that a query means over a range of its first place, after the schema of its result
abbrev pub result_over : Sentence → Database → ℕ → ℕ → Table
result_over query database from to =
    record { schema = result_schema query database; rows = meaning query database from to }

-- what a text means over a range
pub record Meant (database : Database) (from to : ℕ) (text : List ℕ) (answer : Table) : Type 0 where
  pub query : Sentence
  pub asks : AsksSentence database text query
  pub range : IsRange database query from to
  pub is : answer ≡ result_over query database from to

-- ---- what is wanted

-- the whole answer to what is wanted
abbrev pub Answers : Database → InfoCommand → Table → Type 0
Answers database (rows_of text) answer = (query : Sentence) × AsksSentence database text query
    × (answer ≡ result_over query database 0 (first_rows database query))
Answers database tables answer = answer ≡ tables_listed database

-- why it has none: the first fault of parsing, else of binding
abbrev pub Misses : Database → InfoCommand → Fault → Type 0
Misses database (rows_of text) fault = Parsed {X = Sentence} (λ s. s) text (Err fault)
    ⊎ ((query : Sentence) × Parsed (λ s. s) text (Ok query)
    × (fault_of query database ≡ Some fault))
Misses database tables fault = ⊥
