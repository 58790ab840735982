-- A schema in IPC form, as an info and the answer to a schema give it.
use Rattle.std.specs.Prelude.{◌≡◌, ◌≤◌, ◌<◌, ℕ, List, [], ◌∷◌, Some, None, Ok}
use Rattle.flatbuf.specs.Place.{TableAt, VectorAt, root_of, field_of, table_of, element_of}
use Rattle.arrow_types.specs.declared.schema.Schema.{Schema}
use Rattle.arrow_schema.specs.Fields.{table_wanted, vector_wanted}
use Rattle.arrow_schema.specs.WrittenHeader.{encapsulated}
use Rattle.ipc_batch.specs.SaidRows.{Says}

-- no slot of a table is set from this one on
abbrev pub EndsAt : TableAt → ℕ → Type 0
EndsAt table count = (slot : ℕ) → count ≤ slot → field_of table slot ≡ Ok None

-- a Field table says no more than name, nullable, type, dictionary and children, and a dictionary
-- no more than its id and the type of its indices
abbrev pub IsPlainField : TableAt → Type 0
IsPlainField field = EndsAt field 6
    × ((dictionary : TableAt) → table_of field 4 ≡ Ok (Some dictionary) → EndsAt dictionary 2)

-- a message says no more than version, header and bodyLength, its Schema table no more than
-- endianness and fields
pub record IsPlain (header : List ℕ) : Type 0 where
  pub message : TableAt
  pub root : root_of header ≡ Ok message
  pub ends : EndsAt message 4
  pub schema : TableAt
  pub headed : table_wanted message 2 ≡ Ok schema
  pub schema_ends : EndsAt schema 2
  pub vector : VectorAt
  pub listed : vector_wanted schema 1 ≡ Ok vector
  pub fields : (index : ℕ) (field : TableAt) → index < vector.count →
      element_of vector index ≡ Ok field → IsPlainField field

-- a message without a body, framed, which says this schema and nothing else
pub record IsSchemaForm (bytes : List ℕ) (schema : Schema) : Type 0 where
  pub header : List ℕ
  pub framed : bytes ≡ encapsulated header
  pub said : Says (record { header = header; body = [] } ∷ []) schema []
  pub plain : IsPlain header
