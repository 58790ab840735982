-- What is read of a buffer is what it says.
use Rattle.std.proofs.Common.{◌≡◌, ◌≤◌, ◌<◌, ℕ, zero, suc, ◌+◌, ◌==◌, not, nat_lt, nat_le, ◌&&◌, Bool, true, false, List, [], ◌∷◌, length, Option, Some, None, Ok, refl, arith, sym, ap, ◌∙◌, subst}
use Rattle.std.specs.Prelude.{IsTrue, slice_get}
use Rattle.std.specs.List.{range_with_len}
use Rattle.std.proofs.lemmas.Bool.{and_parts, eqb-true, ltb-true, leb-true, lt-ltb, le-leb}
use Rattle.scan_base.specs.declared.fault.Fault.TheVariants.{BadFlatbuffer, UnsupportedArrow, LimitReached}
use Rattle.scan_base.specs.Reading.{demand, wanted}
use Rattle.scan_base.specs.Lists.{each, repeats}
use Rattle.flatbuf.specs.Layout.{TableAt, VectorAt, IsBytes, HasRoot, HasScalar, HasTable, HasVector, HasText}
use Rattle.flatbuf.specs.Place.{root_of, field_of, scalar_of, table_of, vector_of, text_of, element_of}
use Rattle.flatbuf.proofs.Readings.{seen_finds, seen_root}
use Rattle.arrow_types.specs.declared.data_type.IntegerType.{IntegerType}
use Rattle.arrow_types.specs.declared.data_type.IntegerType.TheVariants.{Int32}
use Rattle.arrow_types.specs.declared.data_type.DataType.{DataType}
use Rattle.arrow_types.specs.declared.data_type.DataType.TheVariants.{Number, Utf8, Bool as Flags, Dictionary}
use Rattle.arrow_types.specs.declared.data_type.DictionaryEncoding.{DictionaryEncoding}
use Rattle.arrow_types.specs.declared.schema.Field.{Field}
use Rattle.arrow_types.specs.declared.schema.Schema.{Schema}
use Rattle.arrow_types.specs.Schema.{same_dictionary}
use Rattle.arrow_schema.specs.declared.header.HeaderKind.{HeaderKind}
use Rattle.arrow_schema.specs.declared.header.HeaderKind.TheVariants as header
use Rattle.arrow_schema.specs.TypeTables.{SaysType, type_number}
use Rattle.arrow_schema.specs.Fields.{table_wanted, vector_wanted, name_of, value_type_of, is_bare, childless, index_of, dictionary_of, encoded, field_in}
use Rattle.arrow_schema.specs.Header.{MessageAt, header_kinds, header_kind, message_of, field_at, fields_of, is_schema, schema_message_of, schema_in, schema_of}
use Rattle.arrow_schema.specs.Says.{SaysIndex, SaysDictionary, SaysEncoding, SaysField, SaysFieldAt, SaysColumns, SaysSchema}
use Rattle.arrow_schema.proofs.Readings.{bind_ok, demand_ok, wanted_ok, refused, meaning_told, says_scalar, reads_scalar, says_table, reads_table, says_vector, reads_vector, says_text, reads_text, says_element, reads_element, bytes_table, bytes_vector, wanted_table, wanted_vector}
use Rattle.arrow_schema.proofs.TypeTables.{integer_told, integer_read, type_told, row}
use Rattle.arrow_schema.proofs.Again.{kind_there}

-- ---- types

-- the type of a field's values, by its kind and its table
record SaysValues (field : TableAt) (t : DataType) : Type 0 where
  kind : HasScalar 1 field 2 0 (type_number t)
  type : TableAt
  typed : HasTable field 3 (Some type)
  says : SaysType t type

values_told : (field : TableAt) (t : DataType) → IsBytes field.bytes → value_type_of field ≡ Ok t → SaysValues field t
unfolding value_type_of
values_told field t is e =
    let p = bind_ok (field_of field 2) _ t e in
    let w = bind_ok (wanted p.0 BadFlatbuffer) _ t p.2 in
    let a = bind_ok (scalar_of 1 field 2 0) _ t w.2 in
    let d = type_told a.0 (table_wanted field 3) t a.2 in
    let typed = says_table field 3 (Some d.0) is (wanted_table field 3 d.0 d.1) in
    let told = d.2 (bytes_table field 3 d.0 is typed) in
    record {
      kind = subst (λ (n : ℕ). HasScalar 1 field 2 0 n) told.0 (says_scalar 1 field 2 0 a.0 is a.1);
      type = d.0;
      typed = typed;
      says = told.1;
    }

values_read : (field : TableAt) (t : DataType) → IsBytes field.bytes → SaysValues field t → value_type_of field ≡ Ok t
unfolding value_type_of table_wanted
values_read field t is says =
    let number = reads_scalar 1 field 2 0 (type_number t) is says.kind in
    let there = kind_there t field number in
    rw (there.1, number, (row t).known, reads_table field 3 (Some says.type) is says.typed)
    ((row t).read says.type (bytes_table field 3 says.type is says.typed) says.says)

-- ---- dictionaries

index_told : (found : Option TableAt) (integer : IntegerType) → ((table : TableAt) → found ≡ Some table → IsBytes table.bytes) → index_of found ≡ Ok integer → SaysIndex found integer
index_told None integer is e = let f : integer ≡ Int32 = cc in f
index_told (Some table) integer is e = integer_told table integer (is table refl) e

index_read : (found : Option TableAt) (integer : IntegerType) → ((table : TableAt) → found ≡ Some table → IsBytes table.bytes) → SaysIndex found integer → index_of found ≡ Ok integer
index_read None integer is says = rw says refl
index_read (Some table) integer is says = integer_read table integer (is table refl) says

-- whatever table a slot leads to is one of bytes
pub bytes_behind : (t : TableAt) (slot : ℕ) (found : Option TableAt) → IsBytes t.bytes → HasTable t slot found → (table : TableAt) → found ≡ Some table → IsBytes table.bytes
bytes_behind t slot found is h table e = bytes_table t slot table is (subst (λ (f : Option TableAt). HasTable t slot f) e h)

dictionary_told : (table : TableAt) (t : DataType) → IsBytes table.bytes → dictionary_of table ≡ Ok t →
    (encoding : DictionaryEncoding) × (t ≡ Dictionary encoding) × SaysDictionary table encoding
unfolding dictionary_of
dictionary_told table t is e =
    let b = bind_ok (scalar_of 8 table 0 0) _ t e in
    let c = bind_ok (table_of table 1) _ t b.2 in
    let d = bind_ok (index_of c.0) _ t c.2 in
    let f = bind_ok (scalar_of 2 table 3 0) _ t d.2 in
    let g = bind_ok (demand (f.0 == 0) UnsupportedArrow) _ t f.2 in
    let encoding : DictionaryEncoding = record { id = b.0; index = d.0 } in
    let last = g.2 in
    let indexed = says_table table 1 c.0 is c.1 in (
      encoding,
      (let same : t ≡ Dictionary encoding = cc in same),
      record {
        id = says_scalar 8 table 0 0 b.0 is b.1;
        index = c.0;
        indexed = indexed;
        typed = index_told c.0 d.0 (bytes_behind table 1 c.0 is indexed) d.1;
        kind = subst (λ (n : ℕ). HasScalar 2 table 3 0 n) (eqb-true f.0 0 (demand_ok (f.0 == 0) UnsupportedArrow g.0 g.1)) (says_scalar 2 table 3 0 f.0 is f.1);
      },
    )

dictionary_read : (table : TableAt) (encoding : DictionaryEncoding) → IsBytes table.bytes → SaysDictionary table encoding → dictionary_of table ≡ Ok (Dictionary encoding)
unfolding dictionary_of
dictionary_read table encoding is says =
    rw (reads_scalar 8 table 0 0 encoding.id is says.id, reads_table table 1 says.index is says.indexed, index_read says.index encoding.index (bytes_behind table 1 says.index is says.indexed) says.typed, reads_scalar 2 table 3 0 0 is says.kind) refl

encoded_told : (values : DataType) (found : Option TableAt) (t : DataType) → ((table : TableAt) → found ≡ Some table → IsBytes table.bytes) → encoded values found ≡ Ok t → SaysEncoding values found t
encoded_told values None t is e = let same : t ≡ values = cc in same
encoded_told (Number kind) (Some table) t is e = refused UnsupportedArrow t e
encoded_told Utf8 (Some table) t is e = (refl, dictionary_told table t (is table refl) e)
encoded_told Flags (Some table) t is e = refused UnsupportedArrow t e
encoded_told (Dictionary encoding) (Some table) t is e = refused UnsupportedArrow t e

encoded_read : (values : DataType) (found : Option TableAt) (t : DataType) → ((table : TableAt) → found ≡ Some table → IsBytes table.bytes) → SaysEncoding values found t → encoded values found ≡ Ok t
encoded_read values None t is says = rw says refl
encoded_read values (Some table) t is says =
    rw (says.0, says.1.1) (dictionary_read table says.1.0 (is table refl) says.1.2)

-- ---- fields

abbrev is_name : List ℕ → Bool
is_name name = nat_lt 0 (length name) && nat_le (length name) 64

name_told : (field : TableAt) (name : List ℕ) → IsBytes field.bytes → name_of field ≡ Ok name → HasText field 0 (Some name) × ((1 ≤ length name) × (length name ≤ 64))
unfolding name_of
name_told field name is e =
    let a = bind_ok (text_of field 0) _ name e in
    let b = bind_ok (wanted a.0 LimitReached) _ name a.2 in
    let c = bind_ok (demand (is_name b.0) LimitReached) _ name b.2 in
    let last = c.2 in
    let same : b.0 ≡ name = cc in
    let tests = and_parts (nat_lt 0 (length b.0)) (nat_le (length b.0) 64) (demand_ok (is_name b.0) LimitReached c.0 c.1) in
    let low = ltb-true 0 (length b.0) tests.0 in
    let there : a.0 ≡ Some name = wanted_ok a.0 LimitReached b.0 b.1 ∙ ap Some same in
    let few : length name ≤ 64 = subst (λ (n : List ℕ). length n ≤ 64) same (leb-true (length b.0) 64 tests.1) in
    let some : 0 < length name = subst (λ (n : List ℕ). 0 < length n) same low in
    (subst (λ (f : Option (List ℕ)). HasText field 0 f) there (says_text field 0 a.0 is a.1), (omega arith, few))

name_read : (field : TableAt) (name : List ℕ) → IsBytes field.bytes → HasText field 0 (Some name) → 1 ≤ length name → length name ≤ 64 → name_of field ≡ Ok name
unfolding name_of
name_read field name is h some few =
    rw (reads_text field 0 (Some name) is h, lt-ltb 0 (length name) (omega arith), le-leb (length name) 64 few) refl

childless_told : (field : TableAt) (u : Unit {0}) → IsBytes field.bytes → childless field ≡ Ok u → (children : Option VectorAt) × HasVector field 5 children × IsTrue (is_bare children)
unfolding childless
childless_told field u is e =
    let a = bind_ok (vector_of field 5) _ u e in
    (a.0, says_vector field 5 a.0 is a.1, demand_ok (is_bare a.0) UnsupportedArrow u a.2)

childless_read : (field : TableAt) (children : Option VectorAt) → IsBytes field.bytes → HasVector field 5 children → IsTrue (is_bare children) → childless field ≡ Ok tt
unfolding childless
childless_read field children is h bare = rw (reads_vector field 5 children is h, bare) refl

field_told : (table : TableAt) (field : Field) → IsBytes table.bytes → field_in table ≡ Ok field → SaysField table field
unfolding field_in
field_told table field is e =
    let a = bind_ok (name_of table) _ field e in
    let b = bind_ok (scalar_of 1 table 1 0) _ field a.2 in
    let c = bind_ok (value_type_of table) _ field b.2 in
    let d = bind_ok (childless table) _ field c.2 in
    let f = bind_ok (table_of table 4) _ field d.2 in
    let g = bind_ok (encoded c.0 f.0) _ field f.2 in
    let said : Field = record { name = a.0; nullable = not (b.0 == 0); data_type = g.0 } in
    let last = g.2 in
    let same : said ≡ field = cc in
    let name = name_told table a.0 is a.1 in
    let values = values_told table c.0 is c.1 in
    let bare = childless_told table d.0 is d.1 in
    let encoding = says_table table 4 f.0 is f.1 in
    subst (SaysField table) same (record {
      name = name.0;
      some = name.1.0;
      few = name.1.1;
      nullable = (b.0, says_scalar 1 table 1 0 b.0 is b.1, refl);
      values = c.0;
      kind = values.kind;
      type = values.type;
      typed = values.typed;
      says = values.says;
      dictionary = f.0;
      encoded = encoding;
      encoding = encoded_told c.0 f.0 g.0 (bytes_behind table 4 f.0 is encoding) g.1;
      children = bare.0;
      childless = bare.1;
      bare = bare.2;
    })

field_read : (table : TableAt) (field : Field) → IsBytes table.bytes → SaysField table field → field_in table ≡ Ok field
unfolding field_in
field_read table field is says =
    let values = values_read table says.values is (record { kind = says.kind; type = says.type; typed = says.typed; says = says.says }) in
    rw (
      name_read table field.name is says.name says.some says.few,
      reads_scalar 1 table 1 0 says.nullable.0 is says.nullable.1,
      values,
      childless_read table says.children is says.childless says.bare,
      reads_table table 4 says.dictionary is says.encoded,
      encoded_read says.values says.dictionary field.data_type (bytes_behind table 4 says.dictionary is says.encoded) says.encoding,
      ← says.nullable.2,
    ) refl

-- ---- schemas

field_at_told : (vector : VectorAt) (index : ℕ) (field : Field) → IsBytes vector.bytes → field_at vector index ≡ Ok field → SaysFieldAt vector index field
unfolding field_at
field_at_told vector index field is e =
    let a = bind_ok (element_of vector index) _ field e in
    let element = says_element vector index a.0 a.1 in
    (a.0, element, field_told a.0 field (subst IsBytes (sym element.same) is) a.2)

field_at_read : (vector : VectorAt) (index : ℕ) (field : Field) → IsBytes vector.bytes → SaysFieldAt vector index field → field_at vector index ≡ Ok field
unfolding field_at
field_at_read vector index field is says =
    rw (reads_element vector index says.0 says.1) (field_read says.0 field (subst IsBytes (sym says.1.same) is) says.2)

-- the fields from an index on
abbrev AreFields : VectorAt → ℕ → List Field → Type 0
AreFields vector index fields = (k place : ℕ) (field : Field) → place ≡ index + k → slice_get fields k ≡ Some field → SaysFieldAt vector place field

each_told : (vector : VectorAt) (index n : ℕ) (fields : List Field) → IsBytes vector.bytes → each (field_at vector) (range_with_len index n) ≡ Ok fields →
    (length fields ≡ n) × AreFields vector index fields
each_told vector index zero fields is e =
    let same : [] ≡ fields = cc in
    rw (← same) (refl, λ k place field at h. absurd (let no : ⊥ = cc in no))
each_told vector index (suc n) fields is e =
    let a = bind_ok (field_at vector index) _ fields e in
    let b = bind_ok (each (field_at vector) (range_with_len (index + 1) n)) _ fields a.2 in
    let last = b.2 in
    let same : a.0 ∷ b.0 ≡ fields = cc in
    let first = field_at_told vector index a.0 is a.1 in
    let rest = each_told vector (index + 1) n b.0 is b.1 in
    rw (← same) (ap suc rest.0, fields_more vector index a.0 b.0 first rest.1)
  where
    fields_more : (vector : VectorAt) (index : ℕ) (first : Field) (more : List Field) → SaysFieldAt vector index first → AreFields vector (index + 1) more → AreFields vector index (first ∷ more)
    fields_more vector index first more one rest zero place field at h =
        let e : index ≡ place = omega arith in
        let same : first ≡ field = cc in
        subst (λ (f : Field). SaysFieldAt vector place f) same (subst (λ (i : ℕ). SaysFieldAt vector i first) e one)
    fields_more vector index first more one rest (suc k) place field at h = rest k place field (omega arith) h

each_read : (vector : VectorAt) (index : ℕ) (fields : List Field) → IsBytes vector.bytes → AreFields vector index fields →
    each (field_at vector) (range_with_len index (length fields)) ≡ Ok fields
each_read vector index [] is are = refl
each_read vector index (field ∷ more) is are =
    let one = field_at_read vector index field is (are 0 index field (omega arith) refl) in
    let rest : AreFields vector (index + 1) more = λ (k : ℕ) (place : ℕ) (other : Field) (at : place ≡ index + 1 + k) (h : slice_get more k ≡ Some other). are (suc k) place other (omega arith) h in
    rw (one, each_read vector (index + 1) more is rest) refl

-- the number of a schema's header
abbrev IsSchemaKind : ℕ → HeaderKind → Type 0
IsSchemaKind number kind = is_schema kind ≡ true → (number ≡ 1) × (kind ≡ header.Schema)

kind_again : (number : ℕ) (kind : HeaderKind) → header_kind number ≡ Ok kind → IsSchemaKind number kind
kind_again number kind e =
    meaning_told IsSchemaKind header_kinds number kind (here, (other, (other, tt))) e
  where
    here : IsSchemaKind 1 header.Schema
    here schema = (refl, refl)

    other : {P : Type 0} → false ≡ true → P
    other schema = absurd (let no : ⊥ = cc in no)

-- a message whose header is a schema
record SaysMessage (bytes : List ℕ) (message : MessageAt) : Type 0 where
  kind_is : message.kind ≡ header.Schema
  root : HasRoot bytes message.table
  version : HasScalar 2 message.table 0 0 4
  kind : HasScalar 1 message.table 1 0 1

message_told : (bytes : List ℕ) (message : MessageAt) → IsBytes bytes → schema_message_of bytes ≡ Ok message → SaysMessage bytes message
unfolding schema_message_of message_of
message_told bytes message is e =
    let m = bind_ok (message_of bytes) _ message e in
    let t = bind_ok (demand (is_schema m.0.kind) UnsupportedArrow) _ message m.2 in
    let schema = demand_ok (is_schema m.0.kind) UnsupportedArrow t.0 t.1 in
    let a = bind_ok (root_of bytes) _ m.0 m.1 in
    let b = bind_ok (scalar_of 2 a.0 0 0) _ m.0 a.2 in
    let c = bind_ok (demand (b.0 == 4) UnsupportedArrow) _ m.0 b.2 in
    let d = bind_ok (scalar_of 1 a.0 1 0) _ m.0 c.2 in
    let f = bind_ok (header_kind d.0) _ m.0 d.2 in
    let made : MessageAt = record { kind = f.0; table = a.0 } in
    let last = f.2 in
    let same : made ≡ m.0 = cc in
    let end = t.2 in
    let whole : m.0 ≡ message = cc in
    let root = ((seen_finds (root_of bytes) (HasRoot bytes) (seen_root bytes)).value a.0).0 a.1 in
    let is2 = subst IsBytes (sym root.same) is in
    let kind = kind_again d.0 f.0 f.1 (ap (λ (x : MessageAt). is_schema x.kind) same ∙ schema) in
    subst (SaysMessage bytes) (same ∙ whole) (record {
      kind_is = kind.1;
      root = root;
      version = subst (λ (n : ℕ). HasScalar 2 a.0 0 0 n) (eqb-true b.0 4 (demand_ok (b.0 == 4) UnsupportedArrow c.0 c.1)) (says_scalar 2 a.0 0 0 b.0 is2 b.1);
      kind = subst (λ (n : ℕ). HasScalar 1 a.0 1 0 n) kind.0 (says_scalar 1 a.0 1 0 d.0 is2 d.1);
    })

message_read : (bytes : List ℕ) (message : TableAt) → IsBytes bytes → HasRoot bytes message → HasScalar 2 message 0 0 4 → HasScalar 1 message 1 0 1 →
    schema_message_of bytes ≡ Ok (record { kind = header.Schema; table = message })
unfolding schema_message_of message_of
message_read bytes message is root version kind =
    let is2 = subst IsBytes (sym root.same) is in
    rw (((seen_finds (root_of bytes) (HasRoot bytes) (seen_root bytes)).value message).1 root, reads_scalar 2 message 0 0 4 is2 version, reads_scalar 1 message 1 0 1 is2 kind) refl

-- the fields of a vector
fields_told : (vector : VectorAt) (fields : List Field) → IsBytes vector.bytes → fields_of vector ≡ Ok fields →
    (length fields ≡ vector.count) × ((1 ≤ vector.count) × (vector.count ≤ 64)) × ((index : ℕ) (field : Field) → slice_get fields index ≡ Some field → SaysFieldAt vector index field)
unfolding fields_of
fields_told vector fields is e =
    let a = bind_ok (demand (nat_lt 0 vector.count && nat_le vector.count 64) LimitReached) _ fields e in
    let tests = and_parts (nat_lt 0 vector.count) (nat_le vector.count 64) (demand_ok (nat_lt 0 vector.count && nat_le vector.count 64) LimitReached a.0 a.1) in
    let some = ltb-true 0 vector.count tests.0 in
    let told = each_told vector 0 vector.count fields is a.2 in
    (told.0, (omega arith, leb-true vector.count 64 tests.1), λ index field h. told.1 index index field (omega arith) h)

fields_read : (vector : VectorAt) (fields : List Field) → IsBytes vector.bytes → length fields ≡ vector.count → 1 ≤ vector.count → vector.count ≤ 64 →
    ((index : ℕ) (field : Field) → slice_get fields index ≡ Some field → SaysFieldAt vector index field) → fields_of vector ≡ Ok fields
unfolding fields_of
fields_read vector fields is count some few are =
    let from : AreFields vector 0 fields = λ (k : ℕ) (place : ℕ) (field : Field) (at : place ≡ 0 + k) (h : slice_get fields k ≡ Some field).
    (let e : k ≡ place = omega arith in subst (λ (i : ℕ). SaysFieldAt vector i field) e (are k field h)) in
    rw (lt-ltb 0 vector.count (omega arith), le-leb vector.count 64 few) (ap (λ (n : ℕ). each (field_at vector) (range_with_len 0 n)) (sym count) ∙ each_read vector 0 fields is from)

not_true : (b : Bool) → not b ≡ true → b ≡ false
not_true true e = absurd (let no : ⊥ = cc in no)
not_true false e = refl

-- what a Schema table says
pub record SaysHeader (message : TableAt) (schema : Schema) : Type 0 where
  pub header : TableAt
  pub headed : HasTable message 2 (Some header)
  pub columns : SaysColumns header schema

pub header_told : (message : MessageAt) (schema : Schema) → IsBytes message.table.bytes → schema_in message ≡ Ok schema → SaysHeader message.table schema
unfolding schema_in
header_told message schema is e =
    let a = bind_ok (table_wanted message.table 2) _ schema e in
    let b = bind_ok (scalar_of 2 a.0 0 0) _ schema a.2 in
    let c = bind_ok (demand (b.0 == 0) UnsupportedArrow) _ schema b.2 in
    let d = bind_ok (vector_wanted a.0 1) _ schema c.2 in
    let f = bind_ok (fields_of d.0) _ schema d.2 in
    let g = bind_ok (demand (not (repeats same_dictionary f.0)) UnsupportedArrow) _ schema f.2 in
    let made : Schema = record { fields = f.0 } in
    let last = g.2 in
    let same : made ≡ schema = cc in
    let headed = says_table message.table 2 (Some a.0) is (wanted_table message.table 2 a.0 a.1) in
    let is2 = bytes_table message.table 2 a.0 is headed in
    let listed = says_vector a.0 1 (Some d.0) is2 (wanted_vector a.0 1 d.0 d.1) in
    let told = fields_told d.0 f.0 (bytes_vector a.0 1 d.0 is2 listed) f.1 in
    record {
      header = a.0;
      headed = headed;
      columns = subst (SaysColumns a.0) same (record {
        endianness = subst (λ (n : ℕ). HasScalar 2 a.0 0 0 n) (eqb-true b.0 0 (demand_ok (b.0 == 0) UnsupportedArrow c.0 c.1)) (says_scalar 2 a.0 0 0 b.0 is2 b.1);
        vector = d.0;
        listed = listed;
        count = told.0;
        some = told.1.0;
        few = told.1.1;
        fields = told.2;
        apart = not_true (repeats same_dictionary f.0) (demand_ok (not (repeats same_dictionary f.0)) UnsupportedArrow g.0 g.1);
      });
    }

pub header_read : (message : MessageAt) (schema : Schema) → IsBytes message.table.bytes → SaysHeader message.table schema → schema_in message ≡ Ok schema
unfolding schema_in table_wanted vector_wanted
header_read message schema is says =
    let columns = says.columns in
    let is2 = bytes_table message.table 2 says.header is says.headed in
    let is3 = bytes_vector says.header 1 columns.vector is2 columns.listed in
    rw (
      reads_table message.table 2 (Some says.header) is says.headed,
      reads_scalar 2 says.header 0 0 0 is2 columns.endianness,
      reads_vector says.header 1 (Some columns.vector) is2 columns.listed,
      fields_read columns.vector schema.fields is3 columns.count columns.some columns.few columns.fields,
      columns.apart,
    ) refl

pub schema_told : (bytes : List ℕ) (schema : Schema) → IsBytes bytes → schema_of bytes ≡ Ok schema → SaysSchema bytes schema
unfolding schema_of
schema_told bytes schema is e =
    let m = bind_ok (schema_message_of bytes) schema_in schema e in
    let message = message_told bytes m.0 is m.1 in
    let told = header_told m.0 schema (subst IsBytes (sym message.root.same) is) m.2 in
    record {
      message = m.0.table;
      root = message.root;
      version = message.version;
      kind = message.kind;
      header = told.header;
      headed = told.headed;
      columns = told.columns;
    }

pub schema_read : (bytes : List ℕ) (schema : Schema) → IsBytes bytes → SaysSchema bytes schema → schema_of bytes ≡ Ok schema
unfolding schema_of
schema_read bytes schema is says =
    let message : MessageAt = record { kind = header.Schema; table = says.message } in
    let told = header_read message schema (subst IsBytes (sym says.root.same) is) (record { header = says.header; headed = says.headed; columns = says.columns }) in
    rw (message_read bytes says.message is says.root says.version says.kind) told
