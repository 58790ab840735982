-- Batches after the dictionaries of their own texts.
use Rattle.std.specs.Prelude.{◌≡◌, ℕ, ◌+◌, Bool, true, false, List, [], ◌∷◌, ◌++◌, map, Some, None}
use Rattle.std.specs.Prelude.{Ok, if◌then◌else◌, All}
use Rattle.std.specs.List.{flat_map, AllZip, AllByRecursion}
use Rattle.scan_base.specs.declared.value.Value.{Value}
use Rattle.scan_base.specs.declared.value.Value.TheVariants.{Text}
use Rattle.scan_base.specs.Predicate.{cell_in}
use Rattle.arrow_types.specs.declared.data_type.DataType.{DataType}
use Rattle.arrow_types.specs.declared.data_type.DataType.TheVariants.{Dictionary}
use Rattle.arrow_types.specs.declared.schema.Field.{Field}
use Rattle.arrow_types.specs.declared.schema.Schema.{Schema}
use Rattle.arrays.specs.Batch.{BatchAt, rows_of}
use Rattle.arrays.specs.Firsts.{firsts}
use Rattle.ipc_batch.specs.State.{Known, Dictionaries, values_under, with_values}
use Rattle.ipc_batch.specs.SaidRows.{Sent, Rows, Follows, news_of}

-- whether a column is a dictionary
abbrev pub is_coded : DataType → Bool
is_coded (Dictionary encoding) = true
is_coded _ = false

-- the numbers of those columns, where the first has this number
abbrev pub coded_from : ℕ → List Field → List ℕ
coded_from number [] = []
coded_from number (field ∷ fields) =
    if is_coded field.data_type then number ∷ coded_from (number + 1) fields
    else coded_from (number + 1) fields

-- the cells of a column of rows
abbrev pub cells_in : ℕ → Rows → List Value
cells_in number rows = map (λ row. cell_in row number) rows

-- A message says, to whoever has the schema, all of a dictionary: these texts of this id, in the
-- place of what it had. A delta would say so to those alone who had nothing.
abbrev pub SaysWhole : Schema → ℕ → List (List ℕ) → Sent → Type 0
SaysWhole schema id texts sent = (known : Known) → known.schema ≡ schema → news_of (Some known) sent
    ≡ Ok (record {
      state =
          Some (record known { dictionaries = with_values id (map Text texts) known.dictionaries });
      batch = None;
    })

-- what each such column leads into: the texts among its cells, each once
abbrev pub HasTexts : List ℕ → Rows → Dictionaries → Type 0
HasTexts numbers rows dictionaries =
    AllByRecursion
    (λ number. values_under dictionaries number ≡ map Text (firsts (cells_in number rows))) numbers

-- a message is a record batch that adds these rows, to whoever has the schema and those
-- dictionaries
abbrev pub AddsRows : Schema → Rows → Sent → Type 0
AddsRows schema rows sent = (known : Known) → known.schema ≡ schema →
    HasTexts (coded_from 0 schema.fields) rows known.dictionaries → (batch : BatchAt)
    × (news_of (Some known) sent ≡ Ok (record { state = Some known; batch = Some batch }))
    × (rows_of batch ≡ rows)

-- a batch, the dictionaries right before it, and its rows
pub record Dressing : Type 0 where
  pub dictionaries : List Sent
  pub batch : Sent
  pub rows : Rows

-- for each column that is a dictionary, in their order, its id is the column's number, and its
-- values the texts of the batch
pub record IsDressed (schema : Schema) (dressing : Dressing) : Type 0 where
  pub coded :
      AllZip (λ number sent. SaysWhole schema number (firsts (cells_in number dressing.rows)) sent)
      (coded_from 0 schema.fields) dressing.dictionaries
  pub adds : AddsRows schema dressing.rows dressing.batch

-- the messages after a schema are such batches, one after another, with these rows in all
pub record AreDressed (schema : Schema) (messages : List Sent) (rows : Rows) : Type 0 where
  pub dressings : List Dressing
  pub are : messages ≡ flat_map (λ (d : Dressing). d.dictionaries ++ d.batch ∷ []) dressings
  pub all : All (IsDressed schema) dressings
  pub whole : rows ≡ flat_map (λ (d : Dressing). d.rows) dressings

-- to whoever has the schema such messages say their rows
abbrev pub DressedMessagesSay : Type 0
DressedMessagesSay = (schema : Schema) (messages : List Sent) (rows : Rows) →
    AreDressed schema messages rows → (known : Known) → known.schema ≡ schema →
    (end : Known) × (end.schema ≡ schema) × Follows (Some known) messages (Some end) rows
