-- The columns of the list of tables, and its rows.
use Rattle.std.proofs.Common.{◌≡◌, ◌≤◌, ◌<◌, ◌==◌, ◌&&◌, ◌||◌, ℕ, zero, suc, ◌+◌, ◌-◌, ◌*◌, ◌/◌, ◌%◌, ◌^◌, not, Bool, true, false, nat_le, nat_lt, List, [], ◌∷◌, ◌++◌, length, map, take, filter, get_or, slice_index, slice_get, unwrap_or, All, Option, None, Some, Result, Ok, Err, refl, sym, ap, subst, ◌∙◌, arith, rules, append_assoc, append-nil, length-append}
use Rattle.std.specs.Prelude.{replicate, codes}
use Rattle.std.specs.List.{list_any, list_all, range_with_len}
use Rattle.std.specs.Str.{is_utf8, IsAscii}
use Rattle.std.proofs.lemmas.Bool.{and_parts, le-leb, ltb-true}
use Rattle.std.proofs.lemmas.Str.{IsUtf8-from_ascii}
use Rattle.std.proofs.lemmas.List.{map-append, length-map, length-replicate, same_lists}
use Rattle.std.proofs.lemmas.List.Concat.{flat_map-append}
use Rattle.std.proofs.lemmas.List.Elements.{All-nil, All-cons, All-head, All-map, All-push, All-tail}
use Rattle.std.proofs.lemmas.List.FromFn.{get_or-map-range_with_len, get_or-range_with_len, length-map-range_with_len}
use Rattle.std.proofs.lemmas.Nat.Bits.{bit_at-zero}
use Rattle.std.proofs.lemmas.Option.{slice_get-get_or}
use Rattle.byteorder.specs.Endian.{little_bytes, little_from}
use Rattle.byteorder.specs.Numbers.{length-bytes_low_first}
use Rattle.bitmap.specs.Bits.{bit_of, bits_of}
use Rattle.bitmap.proofs.Masks.{get_or-bits_of}
use Rattle.scan_base.specs.declared.fault.Fault.{Fault}
use Rattle.scan_base.specs.declared.value.Value.{Value}
use Rattle.scan_base.specs.declared.value.Value.TheVariants.{Null, Text}
use Rattle.scan_base.specs.Limits.{most_name_bytes, most_text_bytes}
use Rattle.scan_base.specs.Value.{is_null, IsTextOrNull}
use Rattle.arrow_types.specs.declared.data_type.DataType.TheVariants.{Utf8}
use Rattle.arrow_types.specs.declared.data_type.IntegerType.TheVariants.{UInt8}
use Rattle.arrow_types.specs.Schema.{IsField, IsSchema}
use Rattle.arrays.specs.declared.layout.Layout.{Layout}
use Rattle.arrays.specs.declared.layout.Layout.TheVariants as layout
use Rattle.arrays.specs.Batch.{AreLong, BatchAt, rows_of}
use Rattle.arrays.specs.Buffers.{texts_layout}
use Rattle.arrays.specs.Column.{ColumnAt, slot_of, values_of, whole}
use Rattle.arrays.specs.Indices.{IndicesAt, entry_of}
use Rattle.arrays.specs.Layout.{layout_slot}
use Rattle.arrays.specs.Nulls.{null_count}
use Rattle.arrays.specs.Number.{element_at}
use Rattle.arrays.specs.Texts.{TextsAt, is_offset, text_at, text_stands, texts_of, texts_stand}
use Rattle.arrays.specs.TypedLayouts.{IsOfType}
use Rattle.arrays.specs.WrittenSlots.{text_bytes, offsets_from, texts_joined}
use Rattle.array_buffers.specs.ColumnBuffers.{values_written, validity_read, SaySlots}
use Rattle.arrays.proofs.OfType.{index_is_text}
use Rattle.array_buffers.proofs.ColumnsAgain.{texts_read_again}
use Rattle.array_buffers.proofs.Packed.{map_same}
use Rattle.ipc_batch.proofs.Lengths.{both}
use Rattle.table_versions.specs.Table.{Name, Row, is_long_text}
use Rattle.table_versions.specs.StoredTables.{CatalogAt, TableAt, tables_of}
use Rattle.table_versions.specs.Valid.{IsName}
use Rattle.table_versions.proofs.Places.{split_at}
use Rattle.flight_info.specs.inside.ListedTables.{text_values, HoldTexts, HasValues, nulls_listed, names_listed, types_listed}
use Rattle.flight_info.specs.Tables.{text_column, tables_schema, table_row, tables_listed}

-- ---- the columns

ascii : (bytes : List ℕ) → list_all (λ (byte : ℕ). nat_lt byte 128) bytes ≡ true → IsAscii bytes
ascii [] all i = none i
  where
    none : (i : ℕ) → slice_index [] i < 128
    none zero = omega arith
    none (suc i) = omega arith
ascii (byte ∷ bytes) all i =
    let parts = and_parts (nat_lt byte 128) (list_all (λ (b : ℕ). nat_lt b 128) bytes) all in
    by i (ltb-true byte 128 parts.0) (ascii bytes parts.1)
  where
    by : (i : ℕ) → byte < 128 → ((j : ℕ) → slice_index bytes j < 128) → slice_index (byte ∷ bytes) i < 128
    by zero first rest = first
    by (suc i) first rest = rest i

is_field : (name : Name) (nullable : Bool) → 1 ≤ length name → length name ≤ 64 → list_all (λ (byte : ℕ). nat_lt byte 128) name ≡ true → IsField (text_column name nullable)
is_field name nullable some few all = record { named = record { some = some; few = few; utf8 = IsUtf8-from_ascii name (ascii name all) }; typed = tt }

pub listed_schema : IsSchema tables_schema
listed_schema =
    let catalog = text_column (codes "catalog_name") true in
    let schema = text_column (codes "db_schema_name") true in
    let name = text_column (codes "table_name") false in
    let kind = text_column (codes "table_type") false in
    let first : IsField catalog = is_field (codes "catalog_name") true (omega arith) (omega arith) refl in
    let second : IsField schema = is_field (codes "db_schema_name") true (omega arith) (omega arith) refl in
    let third : IsField name = is_field (codes "table_name") false (omega arith) (omega arith) refl in
    let last : IsField kind = is_field (codes "table_type") false (omega arith) (omega arith) refl in
    record {
      some = omega arith;
      few = omega arith;
      fields = All-cons IsField catalog (schema ∷ name ∷ kind ∷ []) first (All-cons IsField schema (name ∷ kind ∷ []) second (All-cons IsField name (kind ∷ []) third (All-cons IsField kind [] last (All-nil IsField))));
      apart = refl;
    }

-- ---- texts one after another

length-offsets : (at : ℕ) (values : List Value) → length (offsets_from at values) ≡ 4 * (length values + 1)
length-offsets at [] = omega (arith, length-bytes_low_first 0 4 at)
length-offsets at (value ∷ values) =
    let next = at + length (text_bytes value) in
    omega (arith, length-offsets next values, length-bytes_low_first 0 4 at, length-append (little_bytes 4 at) (offsets_from next values))

-- the offsets of one text more
offsets_more : (at : ℕ) (values : List Value) (value : Value) →
    offsets_from at (values ++ value ∷ []) ≡ offsets_from at values ++ little_bytes 4 (at + length (texts_joined (values ++ value ∷ [])))
offsets_more at [] value = ap (λ (bytes : List ℕ). little_bytes 4 at ++ little_bytes 4 (at + length bytes)) (sym (append-nil (text_bytes value)))
offsets_more at (first ∷ values) value =
    let next = at + length (text_bytes first) in
    let end = at + length (text_bytes first ++ texts_joined (values ++ value ∷ [])) in
    let same : next + length (texts_joined (values ++ value ∷ [])) ≡ end = omega (arith, length-append (text_bytes first) (texts_joined (values ++ value ∷ []))) in
    ap (λ (rest : List ℕ). little_bytes 4 at ++ rest) (offsets_more next values value ∙ ap (λ (n : ℕ). offsets_from next values ++ little_bytes 4 n) same)
    ∙ sym (append_assoc (little_bytes 4 at) (offsets_from next values) (little_bytes 4 end))

-- and its bytes
joined_more : (values : List Value) (value : Value) → texts_joined (values ++ value ∷ []) ≡ texts_joined values ++ text_bytes value
joined_more values value = flat_map-append text_bytes values (value ∷ []) ∙ ap (λ (bytes : List ℕ). texts_joined values ++ bytes) (append-nil (text_bytes value))

pub hold_more : (offsets bytes more_offsets more_bytes : List ℕ) (texts : List Name) (text : Name) → HoldTexts offsets bytes texts → more_bytes ≡ bytes ++ text
    → more_offsets ≡ offsets ++ little_bytes 4 (length more_bytes) → length more_bytes < 2 ^ 31 → is_utf8 text ≡ true → HoldTexts more_offsets more_bytes (texts ++ text ∷ [])
hold_more offsets bytes more_offsets more_bytes texts text held longer further short is =
    let values = text_values texts in
    let all : text_values (texts ++ text ∷ []) ≡ values ++ Text text ∷ [] = map-append Text texts (text ∷ []) in
    let joined : more_bytes ≡ texts_joined (values ++ Text text ∷ []) = longer ∙ ap (λ (front : List ℕ). front ++ text) held.joined ∙ sym (joined_more values (Text text)) in
    let end : length more_bytes ≡ 0 + length (texts_joined (values ++ Text text ∷ [])) = omega (arith, ap length joined) in
    record {
      cut = further ∙ ap (λ (front : List ℕ). front ++ little_bytes 4 (length more_bytes)) held.cut ∙ ap (λ (n : ℕ). offsets_from 0 values ++ little_bytes 4 n) end
          ∙ sym (offsets_more 0 values (Text text)) ∙ ap (offsets_from 0) (sym all);
      joined = joined ∙ ap texts_joined (sym all);
      short = short;
      utf8 = All-push (λ (t : Name). is_utf8 t ≡ true) texts text held.utf8 is;
    }

-- ---- values as slots: what is written of columns is read back, and so these columns of them are looked at

abbrev places : List Value → IndicesAt
places values = record { index = UInt8; validity = None; values = range_with_len 0 (length values); dictionary = values; len = length values }

abbrev column_of : List Value → ColumnAt
column_of values = record { layout = layout.Indices (places values); first = 0; len = length values }

place_at : (len j : ℕ) → j < len → element_at 1 (range_with_len 0 len) j ≡ j
unfolding element_at
place_at len j low =
    let at : slice_index (range_with_len 0 len) (1 * j) ≡ 0 + 1 * j = get_or-range_with_len 0 len (1 * j) 0 (omega arith) in
    omega (arith, at)

entry_at_place : (values : List Value) (j : ℕ) (d : Value) → j < length values → entry_of (places values) j ≡ Some (get_or values j d)
entry_at_place values j d low = ap (slice_get values) (place_at (length values) j low) ∙ slice_get-get_or values j d low

slot_at : (values : List Value) (j : ℕ) (d : Value) → j < length values → slot_of (column_of values) j ≡ get_or values j d
slot_at values j d low =
    let z : 0 + j ≡ j = omega arith in
    ap (layout_slot (layout.Indices (places values))) z ∙ ap (λ (found : Option Value). unwrap_or found Null) (entry_at_place values j d low)

values_back : (values : List Value) → values_of (column_of values) ≡ values
values_back values =
    let slot = slot_of (column_of values) in
    let count = length-map-range_with_len slot 0 (length values) in
    same_lists (values_of (column_of values)) values count
    (λ k d low.
    let within : k < length values = omega (arith, count) in
    get_or-map-range_with_len slot 0 (length values) k k d within (omega arith) ∙ slot_at values k d within)

none_null : (texts : List Name) → filter is_null (text_values texts) ≡ []
none_null [] = refl
none_null (text ∷ texts) = none_null texts

no_validity : (texts : List Name) → validity_read (column_of (text_values texts)) ≡ None
no_validity texts =
    let none : null_count (column_of (text_values texts)) ≡ 0 = ap (λ (values : List Value). length (filter is_null values)) (values_back (text_values texts)) ∙ ap length (none_null texts) in
    rw none refl

abbrev Reads : List Name → List ℕ → List ℕ → ℕ → Type 0
Reads texts offsets bytes len = (read : Layout) × (texts_layout None offsets bytes len ≡ Ok read) × (values_of (whole read) ≡ text_values texts) × IsOfType Utf8 read

read_back : (texts : List Name) → All (λ (text : Name). is_utf8 text ≡ true) texts → length (texts_joined (text_values texts)) < 2 ^ 31
    → Reads texts (offsets_from 0 (text_values texts)) (texts_joined (text_values texts)) (length (text_values texts))
unfolding values_written
read_back texts utf8 short =
    let values = text_values texts in
    let column = column_of values in
    let back = values_back values in
    let are : All IsTextOrNull values = All-map IsTextOrNull Text texts utf8 in
    let fits : length (texts_joined (values_of column)) < 2 ^ 31 = rw back short in
    let said : SaySlots Utf8 [] (validity_read column) (offsets_from 0 (values_of column) ∷ texts_joined (values_of column) ∷ []) (length values) (values_of column) =
    texts_read_again column fits (λ j low. index_is_text (places values) (0 + j) are) in
    let own = subst (λ (vs : List Value). SaySlots Utf8 [] (validity_read column) (offsets_from 0 vs ∷ texts_joined vs ∷ []) (length values) vs) back said in
    subst (λ (validity : Option (List ℕ)). SaySlots Utf8 [] validity (offsets_from 0 values ∷ texts_joined values ∷ []) (length values) values) (no_validity texts) own

-- ---- the column of some texts

-- the slots that buffers are read as, which have these values
pub record ReadsAs (validity : Option (List ℕ)) (offsets bytes : List ℕ) (len : ℕ) (values : List Value) : Type 0 where
  pub cells : TextsAt
  pub read : texts_of validity offsets bytes len ≡ Ok cells
  pub has : HasValues values (whole (layout.Texts cells))

slots_have : (values : List Value) (read : Layout) (cells : TextsAt) → read ≡ layout.Texts cells → values_of (whole read) ≡ values → HasValues values (whole (layout.Texts cells))
slots_have values read cells same are = record { are = subst (λ (known : Layout). values_of (whole known) ≡ values) same are; typed = tt }

pub text_slots : (offsets bytes : List ℕ) (texts : List Name) (len : ℕ) → HoldTexts offsets bytes texts → len ≡ length offsets / 4 - 1 → len < 2 ^ 64 → ReadsAs None offsets bytes len (text_values texts)
unfolding texts_layout
text_slots offsets bytes texts len held counted few =
    let values = text_values texts in
    let all : length values ≡ len = omega (arith, counted, ap length held.cut, length-offsets 0 values) in
    let short : length (texts_joined values) < 2 ^ 31 = omega (arith, held.short, ap length held.joined) in
    let back = read_back texts held.utf8 short in
    let mine : Reads texts offsets bytes len = rw (held.cut, held.joined, ← all) back in
    let found = both (texts_of None offsets bytes len) (λ (cells : TextsAt). good (layout.Texts cells)) mine.0 mine.1 in
    let same : mine.0 ≡ layout.Texts found.0 = let last = found.2 in cc in
    record {
      cells = found.0;
      read = found.1;
      has = slots_have values mine.0 found.0 same mine.2;
    }
  where
    good : Layout → Result Layout Fault
    good known = Ok known

-- a result that is read is what is read
pub read_same : (validity : Option (List ℕ)) (offsets bytes : List ℕ) (len : ℕ) (values : List Value) (cells : TextsAt) → ReadsAs validity offsets bytes len values
    → texts_of validity offsets bytes len ≡ Ok cells → HasValues values (whole (layout.Texts cells))
read_same validity offsets bytes len values cells reads e =
    let same : reads.cells ≡ cells = let own = sym reads.read ∙ e in cc in
    subst (λ (c : TextsAt). HasValues values (whole (layout.Texts c))) same reads.has

pub never_refused : (validity : Option (List ℕ)) (offsets bytes : List ℕ) (len : ℕ) (values : List Value) (fault : Fault) → ReadsAs validity offsets bytes len values
    → texts_of validity offsets bytes len ≡ Err fault → ⊥
never_refused validity offsets bytes len values fault reads e = let own = sym reads.read ∙ e in cc

-- ---- the column of some nulls

abbrev pub zeros : ℕ → List ℕ
zeros n = replicate n 0

length-zeros : (n : ℕ) → length (zeros n) ≡ n
length-zeros n = length-replicate {A = ℕ} n 0

zero_at : (n k : ℕ) → slice_index (zeros n) k ≡ 0
zero_at zero zero = refl
zero_at zero (suc k) = refl
zero_at (suc n) zero = refl
zero_at (suc n) (suc k) = zero_at n k

number_none : (n p width : ℕ) → little_from p width (zeros n) ≡ 0
number_none n p zero = refl
number_none n p (suc width) = omega (arith, zero_at n p, number_none n (suc p) width)

offset_none : (n j : ℕ) → element_at 4 (zeros n) j ≡ 0
unfolding element_at
offset_none n j = number_none n (4 * j) 4

bit_none : (n j : ℕ) → bit_of (zeros n) j ≡ false
bit_none n j = rw (zero_at n (j / 8), bit_at-zero (j % 8)) refl

or_last : (a b : Bool) → b ≡ true → (a || b) ≡ true
or_last true b e = refl
or_last false b e = e

all_hold : (test : ℕ → Bool) (first len : ℕ) → ((j : ℕ) → first ≤ j → j < first + len → test j ≡ true) → list_all test (range_with_len first len) ≡ true
all_hold test first zero each = refl
all_hold test first (suc len) each = rw (each first (omega arith) (omega arith)) (all_hold test (first + 1) len (λ j low high. each j (omega arith) (omega arith)))

three_hold : (a b valid text : Bool) → a ≡ true → b ≡ true → valid ≡ false → (a && (b && (not valid || text))) ≡ true
three_hold a b valid text p q r = rw (p, q, r) refl

both_hold : (a b c : Bool) → a ≡ true → b ≡ true → c ≡ true → (a && (b && c)) ≡ true
both_hold a b c p q r = rw (p, q, r) refl

-- slots none of which is valid, over zeros
abbrev nulls : ℕ → ℕ → TextsAt
nulls n len = record { validity = Some (bits_of (zeros n) 0 len); offsets = zeros n; bytes = []; len = len }

null_invalid : (n len j : ℕ) → j < len → get_or (bits_of (zeros n) 0 len) j false ≡ false
null_invalid n len j low = get_or-bits_of (zeros n) 0 len j false low ∙ bit_none n (0 + j)

offset_stands : (n len j : ℕ) → is_offset (nulls n len) j ≡ true
offset_stands n len j = rw (offset_none n j) refl

null_stands : (n len j : ℕ) → j < len → text_stands (nulls n len) j ≡ true
null_stands n len j low =
    three_hold (is_offset (nulls n len) (j + 1)) (nat_le (element_at 4 (zeros n) j) (element_at 4 (zeros n) (j + 1)))
    (get_or (bits_of (zeros n) 0 len) j false) (is_utf8 (text_at (nulls n len) j))
    (offset_stands n len (j + 1)) (rw (offset_none n j, offset_none n (j + 1)) refl) (null_invalid n len j low)

nulls_stand : (n len : ℕ) → n ≡ 4 * (len + 1) → texts_stand (nulls n len) ≡ true
nulls_stand n len room =
    let cells = nulls n len in
    or_last (len == 0 && length (zeros n) == 0)
    (nat_le (4 * (len + 1)) (length (zeros n)) && (is_offset cells 0 && list_all (text_stands cells) (range_with_len 0 len)))
    (both_hold (nat_le (4 * (len + 1)) (length (zeros n))) (is_offset cells 0) (list_all (text_stands cells) (range_with_len 0 len))
    (le-leb (4 * (len + 1)) (length (zeros n)) (omega (arith, room, length-zeros n)))
    (offset_stands n len 0) (all_hold (text_stands cells) 0 len (λ j low high. null_stands n len j (omega arith))))

null_value : (n len j : ℕ) → j < len → slot_of (whole (layout.Texts (nulls n len))) j ≡ Null
null_value n len j low =
    let z : 0 + j ≡ j = omega arith in
    ap (layout_slot (layout.Texts (nulls n len))) z ∙ rw (null_invalid n len j low) refl

as_many_nulls : {X : Type 0} (first : ℕ) (entries : List X) → map (λ (j : ℕ). Null) (range_with_len first (length entries)) ≡ map (λ (entry : X). Null) entries
as_many_nulls first [] = refl
as_many_nulls first (entry ∷ entries) = ap (λ (values : List Value). Null ∷ values) (as_many_nulls (first + 1) entries)

pub null_slots : (catalog : CatalogAt) (bits offsets bytes : List ℕ) (n len : ℕ) → offsets ≡ zeros n → bits ≡ offsets → bytes ≡ [] → n ≡ 4 * (len + 1) → len ≡ length catalog
    → ReadsAs (Some bits) offsets bytes len (nulls_listed catalog)
unfolding texts_of
null_slots catalog bits offsets bytes n len are same none room all =
    let cells = nulls n len in
    let within : nat_le len (8 * length (zeros n)) ≡ true = le-leb len (8 * length (zeros n)) (omega (arith, room, length-zeros n)) in
    rw (same, are, none) (record {
      cells = cells;
      read = rw (within, nulls_stand n len room) refl;
      has = record {
        are = map_same (slot_of (whole (layout.Texts cells))) (λ (j : ℕ). Null) 0 len (λ j first low. null_value n len j (omega arith))
            ∙ ap (λ (m : ℕ). map (λ (j : ℕ). Null) (range_with_len 0 m)) all ∙ as_many_nulls 0 catalog;
        typed = tt;
      };
    })

-- ---- one text more of a list that is walked

pub more_names : (catalog : CatalogAt) (place : ℕ) (entry : Name × TableAt) → slice_get catalog place ≡ Some entry → names_listed (take (place + 1) catalog) ≡ names_listed (take place catalog) ++ entry.0 ∷ []
more_names catalog place entry at =
    ap (λ (entries : CatalogAt). names_listed entries) (split_at catalog place entry at).1 ∙ map-append (λ (e : Name × TableAt). e.0) (take place catalog) (entry ∷ [])

pub more_types : (catalog : CatalogAt) (place : ℕ) → place < length catalog → types_listed (take (place + 1) catalog) ≡ types_listed (take place catalog) ++ codes "TABLE" ∷ []
more_types [] place low = absurd (omega (arith, low))
more_types (entry ∷ catalog) zero low = refl
more_types (entry ∷ catalog) (suc place) low =
    let more : suc place + 1 ≡ suc (place + 1) = omega arith in
    rw more (ap (λ (texts : List Name). codes "TABLE" ∷ texts) (more_types catalog place (omega (arith, low))))

-- ---- rows

-- a column has as many slots as it has values
pub values_long : (values : List Value) (column : ColumnAt) → HasValues values column → column.len ≡ length values
values_long values column has = sym (length-map-range_with_len (slot_of column) 0 column.len) ∙ ap length has.are

-- four functions that agree with four others, place by place
side_by_side : {X : Type 0} (a b c d : ℕ → Value) (e f g h : X → Value) (first : ℕ) (xs : List X)
    → map a (range_with_len first (length xs)) ≡ map e xs → map b (range_with_len first (length xs)) ≡ map f xs
    → map c (range_with_len first (length xs)) ≡ map g xs → map d (range_with_len first (length xs)) ≡ map h xs
    → map (λ (j : ℕ). a j ∷ b j ∷ c j ∷ d j ∷ []) (range_with_len first (length xs)) ≡ map (λ (x : X). e x ∷ f x ∷ g x ∷ h x ∷ []) xs
side_by_side a b c d e f g h first [] p q r s = refl
side_by_side {X} a b c d e f g h first (x ∷ xs) p q r s =
    let heads : a first ∷ b first ∷ c first ∷ d first ∷ [] ≡ e x ∷ f x ∷ g x ∷ h x ∷ [] = cc in
    let rest = side_by_side a b c d e f g h (first + 1) xs (cc) (cc) (cc) (cc) in
    ap (λ (row : List Value). row ∷ map (λ (j : ℕ). a j ∷ b j ∷ c j ∷ d j ∷ []) (range_with_len (first + 1) (length xs))) heads
    ∙ ap (λ (rows : List (List Value)). (e x ∷ f x ∷ g x ∷ h x ∷ []) ∷ rows) rest

listed_rows : (catalog : CatalogAt) → (tables_listed (tables_of catalog)).rows ≡ map (λ (entry : Name × TableAt). table_row entry.0) catalog
listed_rows [] = refl
listed_rows (entry ∷ catalog) = ap (λ (rows : List Row). table_row entry.0 ∷ rows) (listed_rows catalog)

texts_mapped : (f : (Name × TableAt) → Name) (catalog : CatalogAt) → text_values (map f catalog) ≡ map (λ (entry : Name × TableAt). Text (f entry)) catalog
texts_mapped f [] = refl
texts_mapped f (entry ∷ catalog) = ap (λ (values : List Value). Text (f entry) ∷ values) (texts_mapped f catalog)

abbrev pub batch_with : List ColumnAt → ℕ → BatchAt
batch_with columns rows = record { columns = columns; rows = rows }

module _ (catalog : CatalogAt) (a b c d : ColumnAt) (rows : ℕ) (all : rows ≡ length catalog) (first : HasValues (nulls_listed catalog) a) (second : HasValues (nulls_listed catalog) b)
    (third : HasValues (text_values (names_listed catalog)) c) (last : HasValues (text_values (types_listed catalog)) d) where
  first_long : a.len ≡ rows
  first_long = values_long (nulls_listed catalog) a first ∙ length-map catalog (λ (entry : Name × TableAt). Null) ∙ sym all

  second_long : b.len ≡ rows
  second_long = values_long (nulls_listed catalog) b second ∙ length-map catalog (λ (entry : Name × TableAt). Null) ∙ sym all

  third_long : c.len ≡ rows
  third_long = values_long (text_values (names_listed catalog)) c third ∙ length-map (names_listed catalog) Text ∙ length-map catalog (λ (entry : Name × TableAt). entry.0) ∙ sym all

  last_long : d.len ≡ rows
  last_long = values_long (text_values (types_listed catalog)) d last ∙ length-map (types_listed catalog) Text ∙ length-map catalog (λ (entry : Name × TableAt). codes "TABLE") ∙ sym all

  pub all_long : AreLong rows (a ∷ b ∷ c ∷ d ∷ [])
  all_long =
      let long = λ (column : ColumnAt). column.len ≡ rows in
      All-cons long a (b ∷ c ∷ d ∷ []) first_long (All-cons long b (c ∷ d ∷ []) second_long (All-cons long c (d ∷ []) third_long (All-cons long d [] last_long (All-nil long))))

  -- each column's values, by the places of the list
  own : (column : ColumnAt) (values : List Value) → column.len ≡ rows → HasValues values column → map (slot_of column) (range_with_len 0 (length catalog)) ≡ values
  own column values long has = ap (λ (n : ℕ). map (slot_of column) (range_with_len 0 n)) (sym all ∙ sym long) ∙ has.are

  pub rows_are : rows_of (batch_with (a ∷ b ∷ c ∷ d ∷ []) rows) ≡ (tables_listed (tables_of catalog)).rows
  rows_are =
      ap (λ (n : ℕ). map (λ (j : ℕ). slot_of a j ∷ slot_of b j ∷ slot_of c j ∷ slot_of d j ∷ []) (range_with_len 0 n)) all
      ∙ side_by_side (slot_of a) (slot_of b) (slot_of c) (slot_of d) (λ (e : Name × TableAt). Null) (λ (e : Name × TableAt). Null) (λ (e : Name × TableAt). Text e.0) (λ (e : Name × TableAt). Text (codes "TABLE")) 0 catalog
      (own a (nulls_listed catalog) first_long first) (own b (nulls_listed catalog) second_long second)
      (own c (text_values (names_listed catalog)) third_long third ∙ texts_mapped (λ (e : Name × TableAt). e.0) catalog)
      (own d (text_values (types_listed catalog)) last_long last ∙ texts_mapped (λ (e : Name × TableAt). codes "TABLE") catalog)
      ∙ sym (listed_rows catalog)

-- ---- no text is too long

short_name : (name : Name) → length name ≤ most_name_bytes → list_any is_long_text (table_row name) ≡ false
short_name name few =
    let short : nat_lt most_text_bytes (length name) ≡ false = search (rules, few) in
    rw short refl

short_rows : (catalog : CatalogAt) → All (λ (entry : Name × TableAt). IsName entry.0) catalog → list_any (list_any is_long_text) (map (λ (entry : Name × TableAt). table_row entry.0) catalog) ≡ false
short_rows [] named = refl
short_rows (entry ∷ catalog) named =
    let named_all = λ (e : Name × TableAt). IsName e.0 in
    rw (short_name entry.0 (All-head named_all entry catalog named).few) (short_rows catalog (All-tail named_all entry catalog named))

pub listed_short : (catalog : CatalogAt) (rows : List Row) → rows ≡ (tables_listed (tables_of catalog)).rows → All (λ (entry : Name × TableAt). IsName entry.0) catalog → list_any (list_any is_long_text) rows ≡ false
listed_short catalog rows are named = ap (list_any (list_any is_long_text)) (are ∙ listed_rows catalog) ∙ short_rows catalog named
