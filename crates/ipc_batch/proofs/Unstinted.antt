-- What a schema says is found without memory: want of it is no fault of a header.
use Rattle.std.proofs.Common.{◌≢◌, ℕ, ◌+◌, ◌-◌, ◌*◌, ◌^◌, ◌==◌, not, nat_lt, nat_le, ◌&&◌, if◌then◌else◌, Bool, true, false, List, [], ◌∷◌, length, Option, Some, None, Result, Ok}
use Rattle.std.specs.List.{range_with_len}
use Rattle.std.specs.Str.{is_utf8}
use Rattle.scan_base.specs.declared.fault.Fault.{Fault}
use Rattle.scan_base.specs.declared.fault.Fault.TheVariants.{BadFlatbuffer, UnsupportedArrow, BadBatch, LimitReached, OutOfMemory}
use Rattle.scan_base.specs.Limits.{most_columns, most_name_bytes}
use Rattle.scan_base.specs.Reading.{◌>>=◌, demand, wanted}
use Rattle.scan_base.specs.Lists.{repeats}
use Rattle.flatbuf.specs.Layout.{TableAt, VectorAt}
use Rattle.flatbuf.specs.Place.{number_at, target_of, vtable_of, field_of, scalar_at, scalar_of, led_from, through, table_of, vector_of, element_of, items_at, text_of}
use Rattle.arrow_types.specs.declared.data_type.NumberType.TheVariants.{Integer}
use Rattle.arrow_types.specs.declared.data_type.DataType.{DataType}
use Rattle.arrow_types.specs.declared.data_type.DataType.TheVariants.{Number, Utf8, Bool as Flags, Dictionary}
use Rattle.arrow_types.specs.Schema.{same_dictionary}
use Rattle.arrow_schema.specs.Meanings.{meaning_of}
use Rattle.arrow_schema.specs.TimeTables.{time_units, time_bits, time_of, timestamp_of, duration_of}
use Rattle.arrow_schema.specs.TypeTables.{signed_types, unsigned_types, integer_type, integer_of, decimal_of, date_of, type_readings}
use Rattle.arrow_schema.proofs.Readings.{HoldOf}
use Rattle.arrow_schema.specs.Fields.{table_wanted, vector_wanted, name_of, value_type_of, is_bare, childless, index_of, dictionary_of, encoded, field_in}
use Rattle.arrow_schema.specs.Header.{MessageAt, header_of, body_length_of, field_at, fields_of, schema_in}
use Rattle.arrow_schema.specs.declared.header.HeaderKind.{HeaderKind}
use Rattle.arrow_schema.specs.declared.header.HeaderKind.TheVariants as header
use Rattle.ipc_batch.specs.Parts.{body_claimed}
use Rattle.ipc_batch.specs.SaidRows.{schema_sent, first_schema}
use Rattle.ipc_batch.proofs.Only.{Only, only_then, only_if, only_demand, only_wanted, only_each}

-- a fault other than want of memory
abbrev pub IsOther : Fault → Type 0
IsOther fault = fault ≢ OutOfMemory

outside : IsOther BadFlatbuffer
outside e = cc

unsupported : IsOther UnsupportedArrow
unsupported e = cc

limit : IsOther LimitReached
limit e = cc

bad : IsOther BadBatch
bad e = cc

-- ---- places of a buffer

number : (width : ℕ) (bytes : List ℕ) (at : ℕ) → Only IsOther (number_at width bytes at)
number width bytes at = only_if IsOther (nat_le (at + width) (length bytes)) _ BadFlatbuffer outside

target : (bytes : List ℕ) (at : ℕ) → Only IsOther (target_of bytes at)
target bytes at = only_then IsOther (number_at 4 bytes at) _ (number 4 bytes at) (λ offset. tt)

back_at : (at back : ℕ) (near : Bool) → Only IsOther (if near then (demand (nat_le back at) BadFlatbuffer >>= λ _. Ok (at - back)) else Ok (at + (2 ^ 32 - back)))
back_at at back true = only_then IsOther (demand (nat_le back at) BadFlatbuffer) _ (only_demand IsOther (nat_le back at) BadFlatbuffer outside) (λ _. tt)
back_at at back false = tt

vtable : (table : TableAt) → Only IsOther (vtable_of table)
unfolding vtable_of
vtable table = only_then IsOther (number_at 4 table.bytes table.at) _ (number 4 table.bytes table.at) (λ back. back_at table.at back (nat_lt back (2 ^ 31)))

entry : (table : TableAt) (place : ℕ) (absent : Bool) →
    Only IsOther (if absent then Ok None else (number_at 2 table.bytes place >>= λ entry. Ok (if entry == 0 then None else Some (table.at + entry))))
entry table place true = tt
entry table place false = only_then IsOther (number_at 2 table.bytes place) _ (number 2 table.bytes place) (λ entry. tt)

field : (table : TableAt) (slot : ℕ) → Only IsOther (field_of table slot)
unfolding field_of
field table slot =
    only_then IsOther (vtable_of table) _ (vtable table)
    (λ at. only_then IsOther (number_at 2 table.bytes at) _ (number 2 table.bytes at) (λ size. entry table (at + (2 * slot + 4)) (nat_lt size (2 * slot + 6))))

scalar_there : (width : ℕ) (bytes : List ℕ) (default : ℕ) (place : Option ℕ) → Only IsOther (scalar_at width bytes default place)
scalar_there width bytes default None = tt
scalar_there width bytes default (Some at) = number width bytes at

scalar : (width : ℕ) (table : TableAt) (slot default : ℕ) → Only IsOther (scalar_of width table slot default)
unfolding scalar_of
scalar width table slot default = only_then IsOther (field_of table slot) _ (field table slot) (λ place. scalar_there width table.bytes default place)

led : {A : Type 0} (bytes : List ℕ) (read : ℕ → Result A Fault) (place : Option ℕ) → ((target : ℕ) → Only IsOther (read target)) → Only IsOther (led_from bytes read place)
led bytes read None all = tt
led bytes read (Some at) all = only_then IsOther (target_of bytes at) _ (target bytes at) (λ to. only_then IsOther (read to) _ (all to) (λ found. tt))

reached : {A : Type 0} (table : TableAt) (slot : ℕ) (read : ℕ → Result A Fault) → ((target : ℕ) → Only IsOther (read target)) → Only IsOther (through table slot read)
reached table slot read all = only_then IsOther (field_of table slot) _ (field table slot) (λ place. led table.bytes read place all)

table_there : (table : TableAt) (slot : ℕ) → Only IsOther (table_of table slot)
unfolding table_of
table_there table slot = reached {A = TableAt} table slot (λ target. Ok (record { bytes = table.bytes; at = target })) (λ target. tt)

vector_there : (table : TableAt) (slot : ℕ) → Only IsOther (vector_of table slot)
unfolding vector_of
vector_there table slot = reached table slot _ (λ target. only_then IsOther (number_at 4 table.bytes target) _ (number 4 table.bytes target) (λ count. tt))

element : (vector : VectorAt) (index : ℕ) → Only IsOther (element_of vector index)
unfolding element_of
element vector index = only_then IsOther (target_of vector.bytes (vector.first + 4 * index)) _ (target vector.bytes (vector.first + 4 * index)) (λ at. tt)

items : (width : ℕ) (bytes : List ℕ) (at : ℕ) → Only IsOther (items_at width bytes at)
unfolding items_at
items width bytes at =
    only_then IsOther (number_at 4 bytes at) _ (number 4 bytes at) (λ count. only_if IsOther (nat_le (at + 4 + count * width) (length bytes)) _ BadFlatbuffer outside)

text : (table : TableAt) (slot : ℕ) → Only IsOther (text_of table slot)
unfolding text_of
text table slot =
    reached table slot _ (λ target. only_then IsOther (items_at 1 table.bytes target) _ (items 1 table.bytes target) (λ bytes. only_if IsOther (is_utf8 bytes) bytes BadFlatbuffer outside))

-- ---- fields

meaning : {A : Type 0} (rows : List (ℕ × A)) (number : ℕ) → Only IsOther (meaning_of rows number)
meaning [] number = unsupported
meaning (row ∷ rows) number = by (number == row.0) (meaning rows number)
  where
    by : (here : Bool) → Only IsOther (meaning_of rows number) → Only IsOther (if here then Ok row.1 else meaning_of rows number)
    by true rest = tt
    by false rest = rest

table_has : (table : TableAt) (slot : ℕ) → Only IsOther (table_wanted table slot)
unfolding table_wanted
table_has table slot = only_then IsOther (table_of table slot) _ (table_there table slot) (λ found. only_wanted IsOther found BadFlatbuffer outside)

vector_has : (table : TableAt) (slot : ℕ) → Only IsOther (vector_wanted table slot)
unfolding vector_wanted
vector_has table slot = only_then IsOther (vector_of table slot) _ (vector_there table slot) (λ found. only_wanted IsOther found BadFlatbuffer outside)

name : (field : TableAt) → Only IsOther (name_of field)
unfolding name_of
name field =
    only_then IsOther (text_of field 0) _ (text field 0)
    (λ found. only_then IsOther (wanted found LimitReached) _ (only_wanted IsOther found LimitReached limit) (λ name. only_then IsOther (demand (nat_lt 0 (length name) && nat_le (length name) most_name_bytes) LimitReached) _ (only_demand IsOther (nat_lt 0 (length name) && nat_le (length name) most_name_bytes) LimitReached limit) (λ _. tt)))

whole_type : (signed : Bool) (bits : ℕ) → Only IsOther (integer_type signed bits)
whole_type true bits = meaning signed_types bits
whole_type false bits = meaning unsigned_types bits

integer : (table : TableAt) → Only IsOther (integer_of table)
unfolding integer_of
integer table =
    only_then IsOther (scalar_of 4 table 0 0) _ (scalar 4 table 0 0) (λ bits. only_then IsOther (scalar_of 1 table 1 0) _ (scalar 1 table 1 0) (λ signed. whole_type (not (signed == 0)) bits))

decimal : (table : TableAt) → Only IsOther (decimal_of table)
unfolding decimal_of
decimal table =
    only_then IsOther (scalar_of 4 table 0 0) _ (scalar 4 table 0 0)
    (λ precision. only_then IsOther (scalar_of 4 table 1 0) _ (scalar 4 table 1 0)
    (λ scale. only_then IsOther (scalar_of 4 table 2 128) _ (scalar 4 table 2 128)
    (λ bits. only_then IsOther (demand ((precision == 38) && (scale == 0) && (bits == 128)) UnsupportedArrow) _ (only_demand IsOther ((precision == 38) && (scale == 0) && (bits == 128)) UnsupportedArrow unsupported) (λ _. tt))))

date : (table : TableAt) → Only IsOther (date_of table)
unfolding date_of
date table =
    only_then IsOther (scalar_of 2 table 0 1) _ (scalar 2 table 0 1)
    (λ unit. only_then IsOther (demand (unit == 0) UnsupportedArrow) _ (only_demand IsOther (unit == 0) UnsupportedArrow unsupported) (λ _. tt))

timestamp : (table : TableAt) → Only IsOther (timestamp_of table)
unfolding timestamp_of
timestamp table =
    only_then IsOther (scalar_of 2 table 0 0) _ (scalar 2 table 0 0)
    (λ number. only_then IsOther (meaning_of time_units number) _ (meaning time_units number)
    (λ unit. only_then IsOther (text_of table 1) _ (text table 1) (λ zone. tt)))

time : (table : TableAt) → Only IsOther (time_of table)
unfolding time_of
time table =
    only_then IsOther (scalar_of 2 table 0 1) _ (scalar 2 table 0 1)
    (λ number. only_then IsOther (meaning_of time_units number) _ (meaning time_units number)
    (λ unit. only_then IsOther (scalar_of 4 table 1 32) _ (scalar 4 table 1 32)
    (λ bits. only_then IsOther (demand (bits == time_bits unit) UnsupportedArrow) _ (only_demand IsOther (bits == time_bits unit) UnsupportedArrow unsupported) (λ _. tt))))

duration : (table : TableAt) → Only IsOther (duration_of table)
unfolding duration_of
duration table =
    only_then IsOther (scalar_of 2 table 0 1) _ (scalar 2 table 0 1)
    (λ number. only_then IsOther (meaning_of time_units number) _ (meaning time_units number) (λ unit. tt))

-- what is read after a value, or after the rest
chosen : {A B : Type 0} (here : Bool) (x : A) (rest : Result A Fault) (next : A → Result B Fault) → Only IsOther (next x) → Only IsOther (rest >>= next) → Only IsOther ((if here then Ok x else rest) >>= next)
chosen true x rest next one other = one
chosen false x rest next one other = other

-- what is read after what a number stands for among rows
meant : {A B : Type 0} (rows : List (ℕ × A)) (number : ℕ) (next : A → Result B Fault) → HoldOf (λ (key : ℕ) (x : A). Only IsOther (next x)) rows → Only IsOther (meaning_of rows number >>= next)
meant [] number next hold = unsupported
meant (row ∷ rows) number next hold = chosen (number == row.0) row.1 (meaning_of rows number) next hold.0 (meant rows number next hold.1)

value_type : (field : TableAt) → Only IsOther (value_type_of field)
unfolding value_type_of
value_type table =
    only_then IsOther (field_of table 2) _ (field table 2)
    (λ place. only_then IsOther (wanted place BadFlatbuffer) _ (only_wanted IsOther place BadFlatbuffer outside)
    (λ _. only_then IsOther (scalar_of 1 table 2 0) _ (scalar 1 table 2 0)
    (λ number. meant type_readings number (λ (reading : TableAt → Result DataType Fault). table_wanted table 3 >>= reading) (
      read (λ found. integer_of found >>= λ integer. Ok (Number (Integer integer))) (λ found. only_then IsOther (integer_of found) _ (integer found) (λ integer. tt)),
      (read (λ found. Ok Utf8) (λ found. tt), (read (λ found. Ok Flags) (λ found. tt), (read decimal_of decimal, (read date_of date, (read time_of time, (read timestamp_of timestamp, (read duration_of duration, tt))))))),
    ))))
  where
    read : (reading : TableAt → Result DataType Fault) → ((found : TableAt) → Only IsOther (reading found)) → Only IsOther (table_wanted table 3 >>= reading)
    read reading each = only_then IsOther (table_wanted table 3) reading (table_has table 3) each

children : (field : TableAt) → Only IsOther (childless field)
unfolding childless
children table = only_then IsOther (vector_of table 5) _ (vector_there table 5) (λ found. only_demand IsOther (is_bare found) UnsupportedArrow unsupported)

index : (found : Option TableAt) → Only IsOther (index_of found)
index None = tt
index (Some table) = integer table

dictionary : (table : TableAt) → Only IsOther (dictionary_of table)
unfolding dictionary_of
dictionary table =
    only_then IsOther (scalar_of 8 table 0 0) _ (scalar 8 table 0 0)
    (λ id. only_then IsOther (table_of table 1) _ (table_there table 1)
    (λ found. only_then IsOther (index_of found) _ (index found)
    (λ index. only_then IsOther (scalar_of 2 table 3 0) _ (scalar 2 table 3 0)
    (λ kind. only_then IsOther (demand (kind == 0) UnsupportedArrow) _ (only_demand IsOther (kind == 0) UnsupportedArrow unsupported) (λ _. tt)))))

encoding : (values : DataType) (found : Option TableAt) → Only IsOther (encoded values found)
encoding values None = tt
encoding Utf8 (Some table) = dictionary table
encoding (Number kind) (Some table) = unsupported
encoding Flags (Some table) = unsupported
encoding (Dictionary other) (Some table) = unsupported

column : (field : TableAt) → Only IsOther (field_in field)
unfolding field_in
column table =
    only_then IsOther (name_of table) _ (name table)
    (λ name. only_then IsOther (scalar_of 1 table 1 0) _ (scalar 1 table 1 0)
    (λ nullable. only_then IsOther (value_type_of table) _ (value_type table)
    (λ values. only_then IsOther (childless table) _ (children table)
    (λ _. only_then IsOther (table_of table 4) _ (table_there table 4) (λ found. only_then IsOther (encoded values found) _ (encoding values found) (λ data_type. tt))))))

column_at : (vector : VectorAt) (index : ℕ) → Only IsOther (field_at vector index)
unfolding field_at
column_at vector index = only_then IsOther (element_of vector index) _ (element vector index) (λ table. column table)

columns : (vector : VectorAt) → Only IsOther (fields_of vector)
unfolding fields_of
columns vector =
    only_then IsOther (demand (nat_lt 0 vector.count && nat_le vector.count most_columns) LimitReached) _ (only_demand IsOther (nat_lt 0 vector.count && nat_le vector.count most_columns) LimitReached limit) (λ _. only_each IsOther (field_at vector) (range_with_len 0 vector.count) (λ index. column_at vector index))

pub schema_unstinted : (message : MessageAt) → Only IsOther (schema_in message)
unfolding schema_in
schema_unstinted message =
    only_then IsOther (header_of message) _ (table_has message.table 2)
    (λ header. only_then IsOther (scalar_of 2 header 0 0) _ (scalar 2 header 0 0)
    (λ endianness. only_then IsOther (demand (endianness == 0) UnsupportedArrow) _ (only_demand IsOther (endianness == 0) UnsupportedArrow unsupported)
    (λ _. only_then IsOther (vector_wanted header 1) _ (vector_has header 1)
    (λ vector. only_then IsOther (fields_of vector) _ (columns vector)
    (λ fields. only_then IsOther (demand (not (repeats same_dictionary fields)) UnsupportedArrow) _ (only_demand IsOther (not (repeats same_dictionary fields)) UnsupportedArrow unsupported) (λ _. tt))))))

-- ---- the first message

claimed : (message : MessageAt) (body : List ℕ) → Only IsOther (body_claimed message body)
unfolding body_claimed
claimed message body =
    only_then IsOther (body_length_of message) _ (scalar 8 message.table 3 0)
    (λ length_claimed. only_demand IsOther (nat_le length_claimed (length body)) BadBatch bad)

sent : (message : MessageAt) (body : List ℕ) → Only IsOther (schema_sent message body)
unfolding schema_sent
sent message body =
    only_then IsOther (schema_in message) _ (schema_unstinted message)
    (λ schema. only_then IsOther (body_claimed message body) _ (claimed message body) (λ _. tt))

pub first_unstinted : (kind : HeaderKind) (message : MessageAt) (body : List ℕ) → Only IsOther (first_schema kind message body)
first_unstinted header.Schema message body = sent message body
first_unstinted header.DictionaryBatch message body = bad
first_unstinted header.RecordBatch message body = bad
