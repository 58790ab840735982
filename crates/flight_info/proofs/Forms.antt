-- A schema that is written says itself and nothing else.
use Rattle.std.proofs.Common.{◌≡◌, ◌<◌, ◌+◌, ◌*◌, ℕ, zero, suc, List, [], ◌∷◌, length, map, Some, None, Ok, refl, subst, arith}
use Rattle.std.specs.List.{AllByRecursion}
use Rattle.std.proofs.lemmas.List.{length-map}
use Rattle.std.proofs.lemmas.List.Elements.{recursion_from_All}
use Rattle.std.proofs.lemmas.Bool.{lt-ltb}
use Rattle.flatbuf.specs.Place.{TableAt, VectorAt, field_of, table_of, element_of}
use Rattle.flatbuf.specs.Layout.{Stands}
use Rattle.flatbuf.specs.Block.{Given, Absent, Number, Offset, IsWhole, AreWhole, table_part, tables_part, buffer_of}
use Rattle.flatbuf.specs.WrittenTables.{table_at, SlotReads}
use Rattle.flatbuf.specs.Fits.{FitsTable}
use Rattle.flatbuf.proofs.Written.{vtable_reads, table_reads}
use Rattle.flatbuf.proofs.Lengths.{whole_table, whole_text, whole_tables}
use Rattle.flatbuf.proofs.Led.{led_table, led_vector, Elements, absent_table, buffer_reads}
use Rattle.arrow_types.specs.declared.data_type.DataType.{DataType}
use Rattle.arrow_types.specs.declared.data_type.DataType.TheVariants.{Dictionary}
use Rattle.arrow_types.specs.declared.data_type.DictionaryEncoding.{DictionaryEncoding}
use Rattle.arrow_types.specs.declared.schema.Field.{Field}
use Rattle.arrow_types.specs.declared.schema.Schema.{Schema}
use Rattle.arrow_types.specs.Schema.{IsField, IsSchema}
use Rattle.arrow_schema.specs.declared.header.HeaderKind.TheVariants as header
use Rattle.arrow_schema.specs.Fields.{table_wanted, vector_wanted}
use Rattle.arrow_schema.specs.Header.{schema_in, schema_message_of, schema_of}
use Rattle.arrow_schema.specs.Message.{message_part}
use Rattle.arrow_schema.specs.TypeTables.{integer_part}
use Rattle.arrow_schema.specs.WrittenHeader.{dictionary_part, dictionary_given, field_slots, field_part, schema_part, schema_bytes, encapsulated}
use Rattle.arrow_schema.proofs.Messages.{short_message, fits_message, messages_read}
use Rattle.arrow_schema.proofs.TypeTables.{whole_integer, whole_type}
use Rattle.arrow_schema.proofs.Again.{fits_dictionary, fits_field, fits_fields, fits_schema, whole_schema, short_schema, schemas_read}
use Rattle.ipc_batch.specs.Parts.{body_claimed}
use Rattle.ipc_batch.specs.State.{Known}
use Rattle.ipc_batch.specs.SaidRows.{schema_sent, news_of}
use Rattle.flight_info.specs.Forms.{EndsAt, IsPlainField, IsPlain, IsSchemaForm}

-- ---- tables

-- no slot after those that a table was given is set
past_end : (slots : List Given) (bytes : List ℕ) (place : ℕ) → FitsTable slots → Stands (table_part slots).bytes bytes place → EndsAt (table_at bytes place (table_part slots)) (length slots)
unfolding field_of
past_end slots bytes place fits stands slot past =
    let read = vtable_reads slots bytes place fits stands in
    rw (read.0, read.1, lt-ltb (4 + 2 * length slots) (2 * slot + 6) (omega arith)) refl

-- ---- blocks are whole

abbrev dictionary_slots : DictionaryEncoding → List Given
dictionary_slots encoding = Number encoding.id ∷ Offset (integer_part encoding.index) ∷ []

whole_dictionary : (encoding : DictionaryEncoding) → IsWhole (dictionary_part encoding)
unfolding dictionary_part
whole_dictionary encoding = whole_table (dictionary_slots encoding) (whole_integer encoding.index, tt)

whole_given : (t : DataType) (more : List Given) → AreWhole more → AreWhole (dictionary_given t ∷ more)
whole_given (Dictionary encoding) more whole = (whole_dictionary encoding, whole)
whole_given other more whole = whole

whole_slots : (field : Field) → AreWhole (field_slots field)
whole_slots field =
    (whole_text field.name, (whole_type field.data_type, whole_given field.data_type (Offset (tables_part []) ∷ []) (whole_tables [] tt, tt)))

whole_fields : (fields : List Field) → AreWhole (map Offset (map field_part fields))
unfolding field_part
whole_fields [] = tt
whole_fields (field ∷ more) = (whole_table (field_slots field) (whole_slots field), whole_fields more)

-- ---- fields

-- the table that a slot leads to is the one that was found
found_is : (table one other : TableAt) (slot : ℕ) → table_of table slot ≡ Ok (Some one) → table_of table slot ≡ Ok (Some other) → one ≡ other
found_is table one other slot e f = cc

none_found : (table found : TableAt) (slot : ℕ) → field_of table slot ≡ Ok None → table_of table slot ≡ Ok (Some found) → ⊥
none_found table found slot absent e = let none = absent_table table slot absent in cc

dictionary_ends : (encoding : DictionaryEncoding) (bytes : List ℕ) (place : ℕ) → Stands (dictionary_part encoding).bytes bytes place → EndsAt (table_at bytes place (dictionary_part encoding)) 2
unfolding dictionary_part
dictionary_ends encoding bytes place stands = past_end (dictionary_slots encoding) bytes place (fits_dictionary encoding) stands

encoding_ends : (table : TableAt) (t : DataType) → SlotReads table 4 (dictionary_given t) → (found : TableAt) → table_of table 4 ≡ Ok (Some found) → EndsAt found 2
encoding_ends table (Dictionary encoding) reads found e =
    let there = table_at table.bytes reads.place (dictionary_part encoding) in
    let same : there ≡ found = found_is table there found 4 (led_table table 4 (dictionary_part encoding) reads) e in
    subst (λ (t : TableAt). EndsAt t 2) same (dictionary_ends encoding table.bytes reads.place reads.stands)
encoding_ends table other reads found e = absurd (none_found table found 4 reads e)

field_plain : (field : Field) (bytes : List ℕ) (place : ℕ) → IsField field → Stands (field_part field).bytes bytes place → IsPlainField (table_at bytes place (field_part field))
unfolding field_part
field_plain field bytes place is stands =
    let slots = field_slots field in
    let fits = fits_field field is in
    let table = table_at bytes place (table_part slots) in
    let reads = table_reads slots bytes place fits (whole_slots field) stands in
    (past_end slots bytes place fits stands, encoding_ends table field.data_type (reads 4))

fields_plain : (vector : VectorAt) (from : ℕ) (fields : List Field) → AllByRecursion IsField fields → Elements vector from (map field_part fields)
    → (step index : ℕ) (found : TableAt) → from + step ≡ index → step < length fields → element_of vector index ≡ Ok found → IsPlainField found
fields_plain vector from [] are told step index found at below e = absurd (omega (arith, below))
fields_plain vector from (field ∷ more) are told zero index found at below e =
    let here : from ≡ index = omega arith in
    let element = told.0 in
    let there = table_at vector.bytes element.place (field_part field) in
    let same : there ≡ found = (let one = element.element in let other = rw (← here) at e in cc) in
    subst IsPlainField same (field_plain field vector.bytes element.place are.0 element.stands)
fields_plain vector from (field ∷ more) are told (suc step) index found at below e =
    fields_plain vector (suc from) more are.1 told.1 step index found (omega arith) (omega arith) e

-- ---- the message

abbrev schema_slots : Schema → List Given
schema_slots schema = Absent ∷ Offset (tables_part (map field_part schema.fields)) ∷ []

-- the table of a schema, where it stands
record SchemaEnds (table : TableAt) : Type 0 where
  ends : EndsAt table 2
  vector : VectorAt
  listed : vector_wanted table 1 ≡ Ok vector
  fields : (index : ℕ) (field : TableAt) → index < vector.count → element_of vector index ≡ Ok field → IsPlainField field

schema_ends : (schema : Schema) → IsSchema schema → (bytes : List ℕ) (place : ℕ) → Stands (schema_part schema).bytes bytes place → SchemaEnds (table_at bytes place (schema_part schema))
unfolding schema_part vector_wanted
schema_ends schema is bytes place stands =
    let tables = map field_part schema.fields in
    let slots = schema_slots schema in
    let fits = fits_schema schema is in
    let whole = whole_fields schema.fields in
    let t = table_at bytes place (table_part slots) in
    let reads = table_reads slots bytes place fits (whole_tables tables whole, tt) stands in
    let led = led_vector t 1 tables (fits_fields schema is) whole (reads 1) in
    let count = length-map schema.fields field_part in
    record {
      ends = past_end slots bytes place fits stands;
      vector = _;
      listed = rw led.0 refl;
      fields = λ index field below e.
          fields_plain _ 0 schema.fields (recursion_from_All IsField schema.fields is.fields) led.1 index index field (omega arith) (omega (arith, below, count)) e;
    }

-- a schema's message is plain
pub schema_plain : (schema : Schema) → IsSchema schema → IsPlain (schema_bytes schema)
unfolding message_part table_wanted
schema_plain schema is =
    let part = schema_part schema in
    let slots = Number 4 ∷ Number 1 ∷ Offset part ∷ Number 0 ∷ [] in
    let short = short_schema schema is in
    let long = short_message header.Schema part 0 in
    let fits : FitsTable slots = fits_message header.Schema part 0 (omega arith) in
    let whole : AreWhole slots = (whole_schema schema, tt) in
    let bytes = buffer_of (table_part slots) in
    let buffer = buffer_reads (table_part slots) (whole_table slots whole) (omega arith) in
    let t = table_at bytes 8 (table_part slots) in
    let reads = table_reads slots bytes 8 fits whole buffer.1 in
    let header = reads 2 in
    let columns = schema_ends schema is bytes header.place header.stands in
    record {
      message = t;
      root = buffer.0;
      ends = past_end slots bytes 8 fits buffer.1;
      schema = table_at bytes header.place part;
      headed = rw (led_table t 2 part header) refl;
      schema_ends = columns.ends;
      vector = columns.vector;
      listed = columns.listed;
      fields = columns.fields;
    }

-- ---- the form

-- a schema as it is written, framed
pub form_is : (schema : Schema) (form : List ℕ) → IsSchema schema → form ≡ encapsulated (schema_bytes schema) → IsSchemaForm form schema
unfolding schema_of schema_message_of schema_sent news_of body_claimed
form_is schema form is framed =
    let short = short_schema schema is in
    let m = messages_read header.Schema (schema_part schema) 0 (whole_schema schema) (omega arith) (omega arith) in
    let again = schemas_read schema is in
    let told : schema_in m.message ≡ Ok schema = rw (m.found, m.kind_again) at again in
    let known : Known = record { schema = schema; dictionaries = [] } in
    record {
      header = schema_bytes schema;
      framed = framed;
      said = (known, refl, (record { state = Some known; batch = None }, [], rw (m.found, m.kind_again, told, m.body_length_again) refl, refl, (refl, refl)));
      plain = schema_plain schema is;
    }
