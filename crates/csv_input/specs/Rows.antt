-- The rows that the records of a CSV text say under columns, and the first record that is wrong.
use Rattle.std.specs.Prelude.{◌≡◌, ◌≢◌, ◌<◌, ℕ, List, [], ◌∷◌, ◌++◌, All, length, map, get_or}
use Rattle.std.specs.Prelude.{Option, Some, None, IsSome}
use Rattle.scan_base.specs.declared.value.Value.{Value}
use Rattle.scan_base.specs.declared.value.Value.TheVariants.{Null}
use Rattle.arrow_types.specs.declared.schema.Field.{Field}
use Rattle.arrow_types.specs.declared.schema.Schema.{Schema}
use Rattle.ipc_batch.specs.SaidRows.{Rows, Says, Sent}
use Rattle.ipc_stream.specs.declared.message.IpcMessage.{IpcMessage}
use Rattle.csv_columns.specs.FieldValues.{cell_in}
use Rattle.csv_input.specs.declared.outcome.RecordFault.{RecordFault}
use Rattle.csv_input.specs.declared.outcome.RecordFault.TheVariants.{Fields, Cell}
use Rattle.csv_input.specs.declared.outcome.WrongRecord.{WrongRecord}

-- a record has a field for each column, and each says the value of its place in the row
pub record IsRow (columns : List Field) (fields : List (List ℕ)) (row : List Value) : Type 0 where
  pub long : length fields ≡ length columns
  pub wide : length row ≡ length columns
  pub each : (k : ℕ) (d : Field) → k < length columns →
      cell_in (get_or columns k d) (get_or fields k []) ≡ Some (get_or row k Null)

-- each record says a row
pub record AreRows (columns : List Field) (records : List (List (List ℕ)))
    (rows : Rows) : Type 0 where
  pub count : length rows ≡ length records
  pub each : (k : ℕ) → k < length records → IsRow columns (get_or records k []) (get_or rows k [])

-- the field at a place says a value of its column
abbrev pub SaysCell : List Field → List (List ℕ) → ℕ → Type 0
SaysCell columns fields k = (d : Field) → IsSome (cell_in (get_or columns k d) (get_or fields k []))

-- a record has a field for each column, and each says a value
pub record IsRight (columns : List Field) (fields : List (List ℕ)) : Type 0 where
  pub long : length fields ≡ length columns
  pub each : (k : ℕ) → k < length columns → SaysCell columns fields k

-- a field is the first of its record that says no value of its column
pub record IsWrongCell (columns : List Field) (fields : List (List ℕ)) (place : ℕ) : Type 0 where
  pub there : place < length columns
  pub none : (d : Field) → cell_in (get_or columns place d) (get_or fields place []) ≡ None
  pub before : (k : ℕ) → k < place → SaysCell columns fields k

-- what is wrong with a record
abbrev pub IsWrong : List Field → List (List ℕ) → RecordFault → Type 0
IsWrong columns fields (Fields count) = (count ≡ length fields) × (count ≢ length columns)
IsWrong columns fields (Cell place) =
    (length fields ≡ length columns) × IsWrongCell columns fields place

-- a record is the first that is wrong
pub record IsFirstWrong (columns : List Field) (records : List (List (List ℕ)))
    (wrong : WrongRecord) : Type 0 where
  pub there : wrong.before < length records
  pub before : (k : ℕ) → k < wrong.before → IsRight columns (get_or records k [])
  pub is : IsWrong columns (get_or records wrong.before []) wrong.wrong

-- a message, as a reader of messages takes it
abbrev pub sent_in : IpcMessage → Sent
sent_in message = record { header = message.header; body = message.body }

-- each record is right
abbrev pub AreRight : List Field → List (List (List ℕ)) → Type 0
AreRight columns records = All (IsRight columns) records

-- the first record that is wrong, where not all are right
abbrev pub FindsWrong : List Field → List (List (List ℕ)) → Option WrongRecord → Type 0
FindsWrong columns records None = AreRight columns records
FindsWrong columns records (Some wrong) = IsFirstWrong columns records wrong

-- messages say the schema and the rows of these records
abbrev pub SaysRecords : Schema → List (List (List ℕ)) → List IpcMessage → Type 0
SaysRecords schema records messages =
    (rows : Rows) × AreRows schema.fields records rows × Says (map sent_in messages) schema rows

-- a message of the next records says their rows after those that other messages say
pub record IsNext (schema : Schema) (message : IpcMessage)
    (old new : List (List (List ℕ))) : Type 0 where
  pub taken : List (List (List ℕ))
  pub some : taken ≢ []
  pub splits : old ≡ taken ++ new
  pub behind : (done : List (List (List ℕ))) (messages : List IpcMessage) →
      SaysRecords schema done messages →
      SaysRecords schema (done ++ taken) (messages ++ message ∷ [])

-- the message of the next records, or nothing where none is left
abbrev pub TakesMessage : Schema → Option IpcMessage → List (List (List ℕ)) →
    List (List (List ℕ)) → Type 0
TakesMessage schema None old new = old ≡ []
TakesMessage schema (Some message) old new = IsNext schema message old new
