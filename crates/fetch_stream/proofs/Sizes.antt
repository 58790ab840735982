-- How many bytes a message of one row has.
use Rattle.std.proofs.Common.{◌≡◌, ◌≤◌, ◌==◌, ℕ, ◌+◌, ◌-◌, ◌*◌, ◌%◌, ◌^◌, None, Bool, true, false, if◌then◌else◌, List, [], ◌∷◌, ◌++◌, length, map, take, drop, get_or, refl, ap, subst, ◌∙◌, arith, rules, length-append}
use Rattle.std.specs.Int.{div_ceil}
use Rattle.std.specs.List.{list_any, range_with_len, AllByRecursion}
use Rattle.std.proofs.lemmas.List.{length-take, length-map}
use Rattle.std.proofs.lemmas.List.FromFn.{length-map-range_with_len}
use Rattle.scan_base.specs.declared.value.Value.{Value}
use Rattle.scan_base.specs.declared.value.Value.TheVariants as value
use Rattle.arrow_types.specs.declared.data_type.DataType.{DataType}
use Rattle.arrow_types.specs.declared.data_type.DataType.TheVariants.{Dictionary}
use Rattle.arrow_types.specs.declared.data_type.IntegerType.{IntegerType}
use Rattle.arrow_types.specs.declared.data_type.IntegerType.TheVariants.{Int8, Int16, Int32, Int64, UInt8, UInt16, UInt32, UInt64}
use Rattle.arrow_types.specs.declared.schema.Field.{Field}
use Rattle.arrow_types.specs.declared.schema.Schema.{Schema}
use Rattle.scan_base.specs.Limits.{most_columns}
use Rattle.arrays.specs.declared.layout.Layout.{Layout}
use Rattle.arrays.specs.declared.layout.Layout.TheVariants as layout
use Rattle.arrays.specs.Batch.{BatchAt, BatchSlicesKeepRows, row_of, rows_of, cut_batch}
use Rattle.arrays.specs.Column.{ColumnAt, slot_of, values_of, cut}
use Rattle.arrays.specs.Firsts.{firsts}
use Rattle.arrays.specs.Nulls.{null_count, valid_slots}
use Rattle.arrays.specs.Number.{byte_width}
use Rattle.array_buffers.specs.ColumnBuffers.{packed_bits, validity_written, values_written, written_by, buffers_written}
use Rattle.dictionary_answers.specs.Lengths.{with_zeros, texts_length, column_length, dressed_length}
use Rattle.arrays.specs.WrittenSlots.{elements, text_bytes, texts_joined, offsets_from}
use Rattle.arrays.proofs.NullSlots.{length-valid_slots}
use Rattle.flight_proto.specs.FlightData.{data_bytes, body_head, data_head}
use Rattle.flight_proto.specs.Message.{set_fields, spelled}
use Rattle.proto_wire.specs.Calls.{chunk_entry}
use Rattle.proto_wire.specs.Writing.{varint, field_spelling, chunk_head}
use Rattle.ipc_batch.specs.WrittenMessages.{body_of, most_header_bytes}
use Rattle.ipc_batch.proofs.WriterLoops.{buffer_more}
use Rattle.scan_base.specs.Limits.{most_message_bytes, most_text_bytes}
use Rattle.table_versions.specs.Table.{is_long_text}
use Rattle.table_versions.proofs.Storable.{first_false, second_false}
use Rattle.fetch_stream.proofs.Short.{none-take, none-drop}
use Rattle.fetch_stream.specs.Streams.{most_body_bytes}
use Rattle.flight_info.proofs.Sizes.{short_varint, short_chunk, short_set}

-- a buffer before others takes its bytes and at most seven zeros
buffer_first : (buffer : List ℕ) (more : List (List ℕ)) → length (body_of (buffer ∷ more)) ≤ length buffer + 7 + length (body_of more)
buffer_first buffer more =
    let all : length (body_of (buffer ∷ more)) ≡ length buffer + (8 - length buffer % 8) % 8 + length (body_of more) = buffer_more (buffer ∷ more) 0 (omega arith) in
    omega (arith, all)

one_buffer : (buffer : List ℕ) → length (body_of (buffer ∷ [])) ≤ length buffer + 7
one_buffer buffer = omega (arith, buffer_first buffer [])

-- ---- the buffers of a column of one slot

few_bits : (bits : List Bool) → length bits ≡ 1 → length (packed_bits bits) ≤ 1
unfolding packed_bits
few_bits bits one =
    let long : length (packed_bits bits) ≡ 1 = length-map-range_with_len _ 0 (div_ceil (length bits) 8) ∙ ap (λ (n : ℕ). div_ceil n 8) one in
    omega (arith, long)

short_validity : (column : ColumnAt) → column.len ≡ 1 → length (validity_written column) ≤ 1
unfolding validity_written
short_validity column one = by (null_count column == 0)
  where
    by : (none : Bool) → length (if none then [] else packed_bits (valid_slots column)) ≤ 1
    by true = omega arith
    by false = few_bits (valid_slots column) (length-valid_slots column ∙ one)

short_width : (integer : IntegerType) → byte_width integer ≤ 8
short_width Int8 = omega arith
short_width Int16 = omega arith
short_width Int32 = omega arith
short_width Int64 = omega arith
short_width UInt8 = omega arith
short_width UInt16 = omega arith
short_width UInt32 = omega arith
short_width UInt64 = omega arith

short_elements : (width : ℕ) (values : List ℕ) (first : ℕ) → length (elements width values first 1) ≤ width
short_elements width values first =
    let room : width * (first + 1) - width * first ≡ width = omega arith in
    omega (arith, room, length-take (width * (first + 1) - width * first) (drop (width * first) values))

short_text : (v : Value) → is_long_text v ≡ false → length (text_bytes v) ≤ most_text_bytes
short_text value.Null h = omega arith
short_text (value.Bool flag) h = omega arith
short_text (value.Int number) h = omega arith
short_text (value.Text bytes) h = search (rules, h)

-- the most bytes of a column of one row
abbrev most_cell_bytes : ℕ
most_cell_bytes = 65600

two_buffers : (offsets bytes : List ℕ) → length offsets ≡ 8 → length bytes ≤ most_text_bytes → length (body_of (offsets ∷ bytes ∷ [])) ≤ 65560
two_buffers offsets bytes few short =
    omega (arith, few, short, buffer_first offsets (bytes ∷ []), one_buffer bytes)

texts_written : (v : Value) → is_long_text v ≡ false → length (body_of (offsets_from 0 (v ∷ []) ∷ texts_joined (v ∷ []) ∷ [])) ≤ 65560
texts_written v h =
    two_buffers (offsets_from 0 (v ∷ [])) (texts_joined (v ∷ [])) refl
    (omega (arith, short_text v h, length-append (text_bytes v) []))

abbrev column_of : Layout → ℕ → ℕ → ColumnAt
column_of known first len = record { layout = known; first = first; len = len }

values_by : (known : Layout) (first : ℕ) → is_long_text (slot_of (column_of known first 1) 0) ≡ false → length (body_of (written_by known (column_of known first 1))) ≤ 65560
values_by (layout.Integers cells) first h =
    omega (arith, one_buffer (elements (byte_width cells.integer) cells.values first 1), short_elements (byte_width cells.integer) cells.values first, short_width cells.integer)
values_by (layout.Decimals cells) first h =
    omega (arith, one_buffer (elements 16 cells.values first 1), short_elements 16 cells.values first)
values_by (layout.Bools cells) first h =
    let bits = map (λ (j : ℕ). get_or cells.values j false) (range_with_len first 1) in
    omega (arith, one_buffer (packed_bits bits), few_bits bits (length-map-range_with_len (λ (j : ℕ). get_or cells.values j false) first 1))
values_by (layout.Texts cells) first h = texts_written (slot_of (column_of (layout.Texts cells) first 1) 0) h
values_by (layout.Indices cells) first h =
    omega (arith, one_buffer (elements (byte_width cells.index) cells.values first 1), short_elements (byte_width cells.index) cells.values first, short_width cells.index)

-- a column that is written as it is
one_slot : (known : Layout) (first len : ℕ) → len ≡ 1 → is_long_text (slot_of (column_of known first len) 0) ≡ false
    → length (body_of (buffers_written (column_of known first len))) ≤ most_cell_bytes
unfolding values_written
one_slot known first len one h =
    let column = column_of known first 1 in
    let all : length (body_of (validity_written column ∷ written_by known column)) ≤ length (validity_written column) + 7 + length (body_of (written_by known column)) =
    buffer_first (validity_written column) (written_by known column) in
    rw one (omega (arith, all, short_validity column refl, values_by known first h))

-- the dictionary of one slot
none_short : texts_length [] ≤ 65552
none_short = omega arith

one_short : (bytes : List ℕ) → length bytes ≤ most_text_bytes → texts_length (bytes ∷ []) ≤ 65552
one_short bytes short = omega (arith, length-append bytes [], short)

one_text : (v : Value) → is_long_text v ≡ false → texts_length (firsts (v ∷ [])) ≤ 65552
one_text value.Null h = none_short
one_text (value.Bool flag) h = none_short
one_text (value.Int number) h = none_short
one_text (value.Text bytes) h = one_short bytes (short_text (value.Text bytes) h)

coded_slot : (known : Layout) (first len : ℕ) → len ≡ 1 → is_long_text (slot_of (column_of known first len) 0) ≡ false
    → texts_length (firsts (values_of (column_of known first len)))
    + (with_zeros (length (validity_written (column_of known first len))) + with_zeros (4 * len)) ≤ most_cell_bytes
coded_slot known first len one h =
    let column = column_of known first 1 in
    let texts : texts_length (firsts (values_of column)) ≤ 65552 = one_text (slot_of column 0) h in
    rw one (omega (arith, texts, short_validity column refl))

one_column : (t : DataType) (column : ColumnAt) → column.len ≡ 1 → is_long_text (slot_of column 0) ≡ false → column_length t column ≤ most_cell_bytes
one_column (Dictionary encoding) column one h = coded_slot column.layout column.first column.len one h
one_column other column one h = one_slot column.layout column.first column.len one h

-- ---- a batch of one row

one_row : (fields : List Field) (columns : List ColumnAt) → AllByRecursion (λ (column : ColumnAt). column.len ≡ 1) columns → list_any is_long_text (row_of columns 0) ≡ false
    → dressed_length fields columns ≤ most_cell_bytes * length columns
one_row [] columns long h = omega arith
one_row (field ∷ fields) [] long h = omega arith
one_row (field ∷ fields) (column ∷ columns) long h =
    let first = one_column field.data_type column long.0 (first_false (is_long_text (slot_of column 0)) (list_any is_long_text (row_of columns 0)) h) in
    let rest = one_row fields columns long.1 (second_false (is_long_text (slot_of column 0)) (list_any is_long_text (row_of columns 0)) h) in
    omega (arith, first, rest)

-- a slice of one row of a batch
module _ (from to : ℕ) (one : to - from ≡ 1) where
  cut_long : (columns : List ColumnAt) → AllByRecursion (λ (column : ColumnAt). column.len ≡ 1) (map (λ column. cut column from to) columns)
  cut_long [] = tt
  cut_long (column ∷ columns) = (one, cut_long columns)

  first_short : (columns : List ColumnAt) (left : List (List Value)) → map (row_of columns) (range_with_len 0 (to - from)) ≡ left → list_any (list_any is_long_text) left ≡ false
      → list_any is_long_text (row_of columns 0) ≡ false
  first_short columns left is short =
      let all : list_any (list_any is_long_text) (map (row_of columns) (range_with_len 0 1)) ≡ false =
      subst (λ (n : ℕ). list_any (list_any is_long_text) (map (row_of columns) (range_with_len 0 n)) ≡ false) one (ap (list_any (list_any is_long_text)) is ∙ short) in
      first_false (list_any is_long_text (row_of columns 0)) false all

pub one_row_fits : BatchSlicesKeepRows → (schema : Schema) (batch : BatchAt) (from to : ℕ) → to - from ≡ 1 → to ≤ batch.rows → length batch.columns ≤ most_columns
    → list_any (list_any is_long_text) (rows_of batch) ≡ false → dressed_length schema.fields (cut_batch batch from to).columns ≤ most_body_bytes
one_row_fits keep schema batch from to one within few short =
    let columns = map (λ (column : ColumnAt). cut column from to) batch.columns in
    let long = list_any is_long_text in
    let none = none-take long (to - from) (drop from (rows_of batch)) (none-drop long from (rows_of batch) short) in
    let row = first_short from to one columns (take (to - from) (drop from (rows_of batch))) (keep batch from to (omega (arith, one)) within) none in
    let fits : dressed_length schema.fields columns ≤ most_cell_bytes * length columns = one_row schema.fields columns (cut_long from to one batch.columns) row in
    let wide : length columns ≡ length batch.columns = length-map batch.columns (λ (column : ColumnAt). cut column from to) in
    omega (arith, few, fits, wide)

-- ---- payloads

-- the payload of a short header alone
pub schema_fits : (header payload : List ℕ) → payload ≡ data_bytes None (record { data_header = header; data_body = [] }) → length header ≤ 2 ^ 15 → length payload ≤ most_message_bytes
schema_fits header payload is short =
    let first = chunk_entry 2 header in
    let second = chunk_entry 1000 [] in
    let whole : length payload ≡ length (spelled (set_fields (first ∷ second ∷ []))) = ap length is in
    omega (
      arith,
      short,
      whole,
      short_set (first ∷ second ∷ []),
      length-append (field_spelling first) (spelled (second ∷ [])),
      length-append (field_spelling second) [],
      short_chunk 2 header,
      short_chunk 1000 [],
    )

-- the head of a body
short_head : (len : ℕ) → length (body_head len) ≤ 20
unfolding chunk_head
short_head len = by (len == 0)
  where
    by : (none : Bool) → length (if none then [] else varint (8 * 1000 + 2) ++ varint len) ≤ 20
    by true = omega arith
    by false = omega (arith, short_varint (8 * 1000 + 2), short_varint len, length-append (varint (8 * 1000 + 2)) (varint len))

-- the payload of a batch: its header, its body, and the heads of both
pub batch_fits : (header body payload : List ℕ) → payload ≡ data_head header (length body) ++ body → length header ≤ most_header_bytes → length body ≤ most_body_bytes
    → length payload ≤ most_message_bytes
batch_fits header body payload is few short =
    let first = chunk_entry 2 header in
    let front = spelled (set_fields (first ∷ [])) in
    let whole : length payload ≡ length (data_head header (length body) ++ body) = ap length is in
    omega (
      arith,
      few,
      short,
      whole,
      length-append (data_head header (length body)) body,
      length-append front (body_head (length body)),
      short_head (length body),
      short_set (first ∷ []),
      length-append (field_spelling first) [],
      short_chunk 2 header,
    )
