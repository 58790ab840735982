-- Columns that were written are read again with the same values.
use Rattle.std.proofs.Common.{◌≡◌, ℕ, suc, ◌+◌, ◌==◌, ◌<◌, ◌≤◌, nat_le, Bool as Truth, true, false, List, [], ◌∷◌, ◌++◌, length, map, take, drop, get_or, None, Some, Ok, refl, arith, ap, sym, subst, ◌∙◌, if◌then◌else◌}
use Rattle.std.specs.List.{AllByRecursion}
use Rattle.std.proofs.lemmas.Bool.{eq-eqb}
use Rattle.std.proofs.lemmas.List.FromFn.{get_or-map-range_with_len, length-map-range_with_len}
use Rattle.scan_base.specs.declared.value.Value.{Value}
use Rattle.scan_base.specs.declared.value.Value.TheVariants.{Null}
use Rattle.scan_base.specs.declared.fault.Fault.TheVariants.{BadBatch}
use Rattle.scan_base.specs.Reading.{◌>>=◌, demand}
use Rattle.scan_base.specs.Lists.{each}
use Rattle.arrow_types.specs.declared.data_type.DictionaryEncoding.{DictionaryEncoding}
use Rattle.arrow_types.specs.declared.data_type.NumberType.{NumberType}
use Rattle.arrow_types.specs.declared.data_type.Cell.{Cell}
use Rattle.arrow_types.specs.declared.data_type.Cell.TheVariants as cell
use Rattle.arrow_types.specs.declared.data_type.DataType.{DataType}
use Rattle.arrow_types.specs.declared.data_type.DataType.TheVariants.{Number, Utf8, Bool, Dictionary}
use Rattle.arrow_types.specs.DataType.{cell_of}
use Rattle.arrow_types.specs.declared.schema.Field.{Field}
use Rattle.arrays.specs.declared.layout.Layout.{Layout}
use Rattle.arrays.specs.declared.layout.Layout.TheVariants as layout
use Rattle.arrays.specs.Texts.{TextsAt, texts_of}
use Rattle.std.proofs.Common.{◌*◌}
use Rattle.std.proofs.lemmas.List.{length-append}
use Rattle.std.proofs.lemmas.List.Sums.{sum_by-cons}
use Rattle.arrays.specs.Buffers.{values_layout, texts_layout, buffer_count}
use Rattle.arrays.specs.Column.{ColumnAt, IsColumn, slot_of, values_of, whole}
use Rattle.arrays.specs.Batch.{row_of, rows_of}
use Rattle.arrays.specs.TypedLayouts.{LieIn, IsOfType, AreOfTypes}
use Rattle.arrays.specs.Nulls.{null_count}
use Rattle.array_buffers.specs.ColumnBuffers.{validity_written, validity_read, values_written, written_by, HasShortTexts, IsLedBy, SaySlots, buffers_written as column_written}
use Rattle.array_buffers.proofs.ColumnsAgain.{columns_again as slots_again}
use Rattle.array_buffers.proofs.Packed.{map_same}
use Rattle.ipc_batch.specs.declared.parts.BufferPlace.{BufferPlace}
use Rattle.ipc_batch.specs.Parts.{placed_in, buffer_at}
use Rattle.ipc_batch.specs.State.{Dictionaries, values_under}
use Rattle.ipc_batch.specs.Columns.{FrontAt, validity_at, texts_in_buffers, values_in_buffers, values_led_to, front_of, columns_from, buffers_wanted}
use Rattle.ipc_batch.specs.WrittenMessages.{node_written, batch_buffers_written, AreLedBy}
use Rattle.ipc_batch.proofs.Lengths.{fine, both}

-- what is read of buffers that lie in a body
placed : (body : List ℕ) (place : BufferPlace) (buffer : List ℕ) → buffer_at body place ≡ Ok buffer → placed_in body place ≡ Ok tt
unfolding buffer_at
placed body place buffer e = by (nat_le (place.offset + place.length) (length body)) e
  where
    by : (within : Truth) → (demand within BadBatch >>= λ _. Ok (take place.length (drop place.offset body))) ≡ Ok buffer → demand within BadBatch ≡ Ok tt
    by true e = refl
    by false e = absurd (let no : ⊥ = cc in no)

-- the first of the places, and those after it
pub record First (body : List ℕ) (places : List BufferPlace) (buffer : List ℕ) (buffers : List (List ℕ)) : Type 0 where
  pub place : BufferPlace
  pub more : List BufferPlace
  pub is : places ≡ place ∷ more
  pub here : buffer_at body place ≡ Ok buffer
  pub behind : each (buffer_at body) more ≡ Ok buffers

each_first : (body : List ℕ) (places : List BufferPlace) (buffer : List ℕ) (buffers : List (List ℕ)) → each (buffer_at body) places ≡ Ok (buffer ∷ buffers) → First body places buffer buffers
each_first body [] buffer buffers e = absurd (let no : ⊥ = cc in no)
each_first body (place ∷ more) buffer buffers e =
    let a = both (buffer_at body place) (λ (y : List ℕ). (each (buffer_at body) more >>= λ ys. fine (y ∷ ys))) (buffer ∷ buffers) e in
    let b = both (each (buffer_at body) more) (λ (ys : List (List ℕ)). fine (a.0 ∷ ys)) (buffer ∷ buffers) a.2 in
    let same : a.0 ∷ b.0 ≡ buffer ∷ buffers = let c = b.2 in cc in
    let first : a.0 ≡ buffer = cc in
    let rest : b.0 ≡ buffers = cc in
    record { place = place; more = more; is = refl; here = a.1 ∙ ap (λ (x : List ℕ). fine x) first; behind = b.1 ∙ ap (λ (x : List (List ℕ)). fine x) rest }

-- the validity bits are read as they were written
bits_again : (body : List ℕ) (column : ColumnAt) (place : BufferPlace) → buffer_at body place ≡ Ok (validity_written column) → validity_at body (node_written column) place ≡ Ok (validity_read column)
unfolding validity_at
bits_again body column place here = by (null_count column == 0)
  where
    by : (none : Truth) → (if none then (placed_in body place >>= λ _. fine None) else (buffer_at body place >>= λ bits. fine (Some bits))) ≡ Ok (if none then None else Some (validity_written column))
    by true = rw (placed body place (validity_written column) here) refl
    by false = rw here refl

-- a layout that is read in front of others
pub record Front (answered : DataType) (dictionaries : Dictionaries) (rows : ℕ) (body : List ℕ) (column : ColumnAt) (places : List BufferPlace) (others : List (List ℕ)) : Type 0 where
  pub front : FrontAt
  pub read : front_of answered dictionaries rows body (node_written column) places ≡ Ok front
  pub behind : each (buffer_at body) front.behind ≡ Ok others
  pub values : values_of (whole front.layout) ≡ values_of column

texts_found : (dictionaries : Dictionaries) (body : List ℕ) (column : ColumnAt) (places : List BufferPlace) (offsets bytes : List ℕ) (others : List (List ℕ)) (cells : TextsAt) →
    texts_of (validity_read column) offsets bytes column.len ≡ Ok cells → values_of (whole (layout.Texts cells)) ≡ values_of column →
    each (buffer_at body) places ≡ Ok (validity_written column ∷ offsets ∷ bytes ∷ others) → Front Utf8 dictionaries column.len body column places others
unfolding front_of texts_in_buffers
texts_found dictionaries body column places offsets bytes others cells made values found =
    let first = each_first body places (validity_written column) (offsets ∷ bytes ∷ others) found in
    let second = each_first body first.more offsets (bytes ∷ others) first.behind in
    let third = each_first body second.more bytes others second.behind in
    let is : places ≡ first.place ∷ second.place ∷ third.place ∷ third.more = first.is ∙ ap (λ (xs : List BufferPlace). first.place ∷ xs) (second.is ∙ ap (λ (xs : List BufferPlace). second.place ∷ xs) third.is) in
    record {
      front = record { layout = layout.Texts cells; behind = third.more };
      read = subst (λ (xs : List BufferPlace). front_of Utf8 dictionaries column.len body (node_written column) xs ≡ Ok (record { layout = layout.Texts cells; behind = third.more })) (sym is)
          (rw (eq-eqb column.len column.len refl, bits_again body column first.place first.here, second.here, third.here, made) refl);
      behind = third.behind;
      values = values;
    }

texts_front_again : (dictionaries : Dictionaries) (body : List ℕ) (column : ColumnAt) (places : List BufferPlace) (buffers others : List (List ℕ)) →
    SaySlots Utf8 [] (validity_read column) buffers column.len (values_of column) → each (buffer_at body) places ≡ Ok (validity_written column ∷ (buffers ++ others)) →
    Front Utf8 dictionaries column.len body column places others
unfolding texts_layout values_layout
texts_front_again dictionaries body column places [] others say found = absurd say
texts_front_again dictionaries body column places (offsets ∷ []) others say found = absurd (let e = say.1 in let no : ⊥ = cc in no)
texts_front_again dictionaries body column places (offsets ∷ bytes ∷ []) others say found =
    let cut = both (texts_of (validity_read column) offsets bytes column.len) (λ (cells : TextsAt). fine (layout.Texts cells)) say.0 say.1 in
    let same : layout.Texts cut.0 ≡ say.0 = let e = cut.2 in cc in
    texts_found dictionaries body column places offsets bytes others cut.0 cut.1 (ap (λ (l : Layout). values_of (whole l)) same ∙ say.2) found
texts_front_again dictionaries body column places (offsets ∷ bytes ∷ more ∷ buffers) others say found = absurd say

-- the same of a type with one buffer of values
pub record Values (answered : DataType) (dictionary : List Value) (body : List ℕ) (column : ColumnAt) (places : List BufferPlace) (others : List (List ℕ)) : Type 0 where
  pub validity : BufferPlace
  pub packed : BufferPlace
  pub more : List BufferPlace
  pub is : places ≡ validity ∷ packed ∷ more
  pub layout : Layout
  pub read : values_in_buffers answered dictionary column.len body (node_written column) validity packed ≡ Ok layout
  pub behind : each (buffer_at body) more ≡ Ok others
  pub values : values_of (whole layout) ≡ values_of column

values_again : (answered : DataType) (dictionary : List Value) (body : List ℕ) (column : ColumnAt) (places : List BufferPlace) (packed : List ℕ) (others : List (List ℕ)) (read : Layout) →
    values_layout answered dictionary (validity_read column) packed column.len ≡ Ok read → values_of (whole read) ≡ values_of column →
    each (buffer_at body) places ≡ Ok (validity_written column ∷ packed ∷ others) → Values answered dictionary body column places others
unfolding values_in_buffers
values_again answered dictionary body column places packed others read is values found =
    let first = each_first body places (validity_written column) (packed ∷ others) found in
    let second = each_first body first.more packed others first.behind in
    record {
      validity = first.place;
      packed = second.place;
      more = second.more;
      is = first.is ∙ ap (λ (xs : List BufferPlace). first.place ∷ xs) second.is;
      layout = read;
      read = rw (eq-eqb column.len column.len refl, bits_again body column first.place first.here, second.here) is;
      behind = second.behind;
      values = values;
    }

numbers_front : (kind : NumberType) (dictionaries : Dictionaries) (body : List ℕ) (column : ColumnAt) (places : List BufferPlace) (buffers others : List (List ℕ)) →
    SaySlots (Number kind) [] (validity_read column) buffers column.len (values_of column) → each (buffer_at body) places ≡ Ok (validity_written column ∷ (buffers ++ others)) →
    Front (Number kind) dictionaries column.len body column places others
unfolding front_of
numbers_front kind dictionaries body column places [] others say found = absurd say
numbers_front kind dictionaries body column places (packed ∷ []) others say found =
    let v = values_again (Number kind) [] body column places packed others say.0 say.1 say.2 found in
    record { front = record { layout = v.layout; behind = v.more }; read = subst (λ (xs : List BufferPlace). front_of (Number kind) dictionaries column.len body (node_written column) xs ≡ Ok (record { layout = v.layout; behind = v.more })) (sym v.is) (rw v.read refl); behind = v.behind; values = v.values }
numbers_front kind dictionaries body column places (packed ∷ more ∷ buffers) others say found = absurd say

bools_front : (dictionaries : Dictionaries) (body : List ℕ) (column : ColumnAt) (places : List BufferPlace) (buffers others : List (List ℕ)) →
    SaySlots Bool [] (validity_read column) buffers column.len (values_of column) → each (buffer_at body) places ≡ Ok (validity_written column ∷ (buffers ++ others)) →
    Front Bool dictionaries column.len body column places others
unfolding front_of
bools_front dictionaries body column places [] others say found = absurd say
bools_front dictionaries body column places (packed ∷ []) others say found =
    let v = values_again Bool [] body column places packed others say.0 say.1 say.2 found in
    record { front = record { layout = v.layout; behind = v.more }; read = subst (λ (xs : List BufferPlace). front_of Bool dictionaries column.len body (node_written column) xs ≡ Ok (record { layout = v.layout; behind = v.more })) (sym v.is) (rw v.read refl); behind = v.behind; values = v.values }
bools_front dictionaries body column places (packed ∷ more ∷ buffers) others say found = absurd say

indices_front : (encoding : DictionaryEncoding) (dictionaries : Dictionaries) (body : List ℕ) (column : ColumnAt) (places : List BufferPlace) (buffers others : List (List ℕ)) →
    SaySlots (Dictionary encoding) (values_under dictionaries encoding.id) (validity_read column) buffers column.len (values_of column) → each (buffer_at body) places ≡ Ok (validity_written column ∷ (buffers ++ others)) →
    Front (Dictionary encoding) dictionaries column.len body column places others
unfolding front_of
indices_front encoding dictionaries body column places [] others say found = absurd say
indices_front encoding dictionaries body column places (packed ∷ []) others say found =
    let v = values_again (Dictionary encoding) (values_under dictionaries encoding.id) body column places packed others say.0 say.1 say.2 found in
    record { front = record { layout = v.layout; behind = v.more }; read = subst (λ (xs : List BufferPlace). front_of (Dictionary encoding) dictionaries column.len body (node_written column) xs ≡ Ok (record { layout = v.layout; behind = v.more })) (sym v.is) (rw v.read refl); behind = v.behind; values = v.values }
indices_front encoding dictionaries body column places (packed ∷ more ∷ buffers) others say found = absurd say

pub front_again : (data_type : DataType) (dictionaries : Dictionaries) (body : List ℕ) (column : ColumnAt) (places : List BufferPlace) (others : List (List ℕ)) →
    IsColumn column → IsOfType data_type column.layout → IsLedBy data_type (values_led_to data_type dictionaries) column.layout column → HasShortTexts column →
    each (buffer_at body) places ≡ Ok (column_written column ++ others) → Front data_type dictionaries column.len body column places others
front_again (Number kind) dictionaries body column places others stands of led short found =
    numbers_front kind dictionaries body column places (values_written column) others (slots_again (Number kind) [] column stands of led short) found
front_again Bool dictionaries body column places others stands of led short found =
    bools_front dictionaries body column places (values_written column) others (slots_again Bool [] column stands of led short) found
front_again Utf8 dictionaries body column places others stands of led short found =
    texts_front_again dictionaries body column places (values_written column) others (slots_again Utf8 [] column stands of led short) found
front_again (Dictionary encoding) dictionaries body column places others stands of led short found =
    indices_front encoding dictionaries body column places (values_written column) others (slots_again (Dictionary encoding) (values_under dictionaries encoding.id) column stands of led short) found

-- what a column that is written is
pub record IsWritable (rows : ℕ) (column : ColumnAt) : Type 0 where
  pub len : column.len ≡ rows
  pub stands : IsColumn column
  pub short : HasShortTexts column

-- columns with the same values, one next to another
abbrev pub SameValues : List ColumnAt → List ColumnAt → Type 0
SameValues [] [] = Unit {0}
SameValues (one ∷ more) (other ∷ others) = (values_of one ≡ values_of other) × SameValues more others
SameValues _ _ = ⊥

pub record Again (fields : List Field) (dictionaries : Dictionaries) (rows : ℕ) (body : List ℕ) (places : List BufferPlace) (columns : List ColumnAt) : Type 0 where
  pub read : List ColumnAt
  pub is : columns_from fields dictionaries rows body (map node_written columns) places ≡ Ok read
  pub values : SameValues read columns

-- the columns that were written are read again
pub columns_again : (fields : List Field) (dictionaries : Dictionaries) (rows : ℕ) (body : List ℕ) (places : List BufferPlace) (columns : List ColumnAt) → AreOfTypes fields columns →
    AreLedBy fields dictionaries columns → AllByRecursion (IsWritable rows) columns → each (buffer_at body) places ≡ Ok (batch_buffers_written columns) → Again fields dictionaries rows body places columns
columns_again [] dictionaries rows body places [] of led are found = record { read = []; is = refl; values = tt }
columns_again [] dictionaries rows body places (column ∷ columns) of led are found = absurd of
columns_again (field ∷ fields) dictionaries rows body places [] of led are found = absurd of
columns_again (field ∷ fields) dictionaries rows body places (column ∷ columns) of led are found =
    let front = front_again field.data_type dictionaries body column places (batch_buffers_written columns) are.0.stands of.0 led.0 are.0.short found in
    let read : front_of field.data_type dictionaries rows body (node_written column) places ≡ Ok front.front =
    rw (← are.0.len) front.read in
    let more = columns_again fields dictionaries rows body front.front.behind columns of.1 led.1 are.1 front.behind in
    record { read = whole front.front.layout ∷ more.read; is = rw (read, more.is) refl; values = (front.values, more.values) }

-- a slot is that of another column with the same values
slot_same : (one other : ColumnAt) (rows j : ℕ) → values_of one ≡ values_of other → other.len ≡ rows → j < rows → slot_of one j ≡ slot_of other j
slot_same one other rows j same len low =
    let long = ap length same in
    let a = length-map-range_with_len (slot_of one) 0 one.len in
    let b = length-map-range_with_len (slot_of other) 0 other.len in
    sym (get_or-map-range_with_len (slot_of one) 0 one.len j j Null (omega (arith, long, a, b, len)) (omega arith))
    ∙ ap (λ (values : List Value). get_or values j Null) same
    ∙ get_or-map-range_with_len (slot_of other) 0 other.len j j Null (omega (arith, len)) (omega arith)

row_again : (rows j : ℕ) (read columns : List ColumnAt) → AllByRecursion (IsWritable rows) columns → SameValues read columns → j < rows → row_of read j ≡ row_of columns j
row_again rows j [] [] are same low = refl
row_again rows j [] (column ∷ columns) are same low = absurd same
row_again rows j (one ∷ read) [] are same low = absurd same
row_again rows j (one ∷ read) (column ∷ columns) are same low =
    rw (slot_same one column rows j same.0 are.0.len low, row_again rows j read columns are.1 same.1 low) refl

pub rows_again : (rows : ℕ) (read columns : List ColumnAt) → AllByRecursion (IsWritable rows) columns → SameValues read columns →
    rows_of (record { columns = read; rows = rows }) ≡ rows_of (record { columns = columns; rows = rows })
rows_again rows read columns are same = map_same (row_of read) (row_of columns) 0 rows (λ j first low. row_again rows j read columns are same (omega arith))

-- a column has as many buffers as its type wants
numbers_buffers : (cell : Cell) (known : Layout) (column : ColumnAt) → LieIn cell known → suc (length (written_by known column)) ≡ 2
numbers_buffers (cell.Integer integer) (layout.Integers cells) column of = refl
numbers_buffers cell.Wide (layout.Decimals cells) column of = refl
numbers_buffers cell known column of = absurd of

type_buffers : (data_type : DataType) (known : Layout) (column : ColumnAt) → IsOfType data_type known → suc (length (written_by known column)) ≡ buffer_count data_type
type_buffers (Number kind) known column of = numbers_buffers (cell_of kind) known column of
type_buffers Bool (layout.Bools cells) column of = refl
type_buffers Utf8 (layout.Texts cells) column of = refl
type_buffers (Dictionary encoding) (layout.Indices cells) column of = refl
type_buffers data_type known column of = absurd of

column_buffers : (data_type : DataType) (column : ColumnAt) → IsOfType data_type column.layout → length (column_written column) ≡ buffer_count data_type
unfolding values_written
column_buffers data_type column of = type_buffers data_type column.layout column of

pub wanted_again : (fields : List Field) (columns : List ColumnAt) → AreOfTypes fields columns →
    (length columns ≡ length fields) × (length (batch_buffers_written columns) ≡ buffers_wanted fields)
wanted_again [] [] of = (refl, refl)
wanted_again [] (column ∷ columns) of = absurd of
wanted_again (field ∷ fields) [] of = absurd of
wanted_again (field ∷ fields) (column ∷ columns) of =
    let more = wanted_again fields columns of.1 in
    let step : buffers_wanted (field ∷ fields) ≡ buffer_count field.data_type + buffers_wanted fields = sum_by-cons (λ (x : Field). buffer_count x.data_type) field fields in
    let all = length-append (column_written column) (batch_buffers_written columns) in
    (omega (arith, more.0), omega (arith, step, all, more.1, column_buffers field.data_type column of.0))

-- and no more than three
pub few_buffers : (columns : List ColumnAt) → length (batch_buffers_written columns) ≤ 3 * length columns
unfolding values_written
few_buffers [] = omega arith
few_buffers (column ∷ columns) =
    let ih = few_buffers columns in
    let all = length-append (column_written column) (batch_buffers_written columns) in
    omega (arith, ih, all, three column.layout)
  where
    three : (known : Layout) → length (written_by known column) ≤ 2
    three (layout.Integers cells) = omega arith
    three (layout.Decimals cells) = omega arith
    three (layout.Bools cells) = omega arith
    three (layout.Texts cells) = omega arith
    three (layout.Indices cells) = omega arith
