-- Batches over their own texts lie as their schema says, and lead into the dictionaries before them.
use Rattle.std.proofs.Common.{◌≡◌, ◌≤◌, ◌<◌, ℕ, zero, suc, ◌+◌, ◌==◌, ◌||◌, All, Bool, true, false, List, [], ◌∷◌, ◌++◌, length, map, slice_get, get_or, Some, if◌then◌else◌, refl, sym, ap, subst, ◌∙◌, arith}
use Rattle.std.specs.List.{list_any, AllZip}
use Rattle.std.proofs.lemmas.Bool.{eq-eqb}
use Rattle.std.proofs.lemmas.List.FromFn.{length-map-range_with_len}
use Rattle.scan_base.specs.declared.value.Value.{Value}
use Rattle.scan_base.specs.declared.value.Value.TheVariants.{Null, Bool as Flag, Int, Text}
use Rattle.scan_base.specs.Value.{IsTextOrNull}
use Rattle.scan_base.specs.Limits.{most_values}
use Rattle.arrow_types.specs.declared.data_type.IntegerType.TheVariants.{Int32}
use Rattle.arrow_types.specs.declared.data_type.DictionaryEncoding.{DictionaryEncoding}
use Rattle.arrow_types.specs.declared.data_type.DataType.{DataType}
use Rattle.arrow_types.specs.declared.data_type.DataType.TheVariants.{Number, Utf8, Bool as Flags, Dictionary}
use Rattle.arrow_types.specs.declared.schema.Field.{Field}
use Rattle.arrow_types.specs.declared.schema.Schema.{Schema}
use Rattle.arrays.specs.declared.layout.Layout.{Layout}
use Rattle.arrays.specs.declared.layout.Layout.TheVariants as layout
use Rattle.arrays.specs.Number.{integer_at}
use Rattle.arrays.specs.Dictionary.{entry_at}
use Rattle.arrays.specs.Batch.{BatchAt, AreLong, rows_of}
use Rattle.arrays.specs.Column.{ColumnAt, IsColumn, slot_of, values_of}
use Rattle.arrays.specs.Firsts.{firsts}
use Rattle.arrays.specs.TypedLayouts.{IsOfType, IsValueOf, AreOfTypes, ValuesAreOfTheirType}
use Rattle.array_buffers.specs.ColumnBuffers.{IsLedBy}
use Rattle.dictionary_answers.specs.Answer.{IsAnswered, IsCodable, AreAnswered, AreCodable, LiesOver, column_dictionary, dictionaries_of}
use Rattle.dictionary_answers.proofs.Places.{few_behind}
use Rattle.ipc_batch.specs.State.{Known, Dictionaries, values_under}
use Rattle.ipc_batch.specs.Columns.{values_led_to}
use Rattle.ipc_batch.specs.News.{has_id, leads_to}
use Rattle.ipc_batch.specs.SaidRows.{Sent, Rows}
use Rattle.ipc_batch.specs.WrittenMessages.{AreLedBy, SaysBatch, SaysValues}
use Rattle.ipc_batch.specs.DressedBatches.{cells_in, is_coded, coded_from, HasTexts, SaysWhole, AddsRows}
use Rattle.ipc_batch.proofs.Dressing.{column_cells, whole_said}
use Rattle.dictionary_answers.specs.Dress.{IsNumbered, AreNumbered, IsTextLayout, IsDressable, AreDressable}

-- ---- texts

text_if : (value : Value) → IsValueOf Utf8 value → IsTextOrNull value
text_if Null is = tt
text_if (Text bytes) is = is
text_if (Flag flag) is = absurd is
text_if (Int number) is = absurd is

text_led : (encoding : DictionaryEncoding) (value : Value) → IsValueOf (Dictionary encoding) value → IsTextOrNull value
text_led encoding Null is = tt
text_led encoding (Text bytes) is = is
text_led encoding (Flag flag) is = absurd is
text_led encoding (Int number) is = absurd is

-- a column that holds texts has no other values
texts_held : ValuesAreOfTheirType → (column : ColumnAt) → IsColumn column → IsTextLayout column.layout → All IsTextOrNull (values_of column)
texts_held typed column stands holds = by column.layout refl holds
  where
    any : DictionaryEncoding
    any = record { id = 0; index = Int32 }

    by : (known : Layout) → column.layout ≡ known → IsTextLayout known → All IsTextOrNull (values_of column)
    by (layout.Texts cells) e holds =
        λ k d low. text_if (get_or (values_of column) k d) (typed Utf8 column stands (subst (IsOfType Utf8) (sym e) tt) k d low)
    by (layout.Indices cells) e holds =
        λ k d low. text_led any (get_or (values_of column) k d) (typed (Dictionary any) column stands (subst (IsOfType (Dictionary any)) (sym e) tt) k d low)
    by (layout.Integers cells) e holds = absurd holds
    by (layout.Decimals cells) e holds = absurd holds
    by (layout.Bools cells) e holds = absurd holds

-- what may be dressed may be coded
pub dressable_coded : ValuesAreOfTheirType → (fields : List Field) (columns : List ColumnAt) → All IsColumn columns → AreDressable fields columns → AreCodable fields columns
dressable_coded typed [] [] stand are = tt
dressable_coded typed (field ∷ fields) (column ∷ columns) stand are =
    (by field.data_type are.0, dressable_coded typed fields columns (λ k d low. stand (suc k) d (omega (arith, low))) are.1)
  where
    by : (t : DataType) → IsDressable t column → IsCodable t column
    by (Number kind) is = tt
    by Utf8 is = tt
    by Flags is = tt
    by (Dictionary encoding) is = texts_held typed column (stand 0 column (omega arith)) is
dressable_coded typed [] (column ∷ columns) stand are = absurd are
dressable_coded typed (field ∷ fields) [] stand are = absurd are

-- ---- types

-- columns that are answered are of their fields' types
pub answered_typed : (fields : List Field) (columns made : List ColumnAt) → AreDressable fields columns → AreAnswered fields columns made → AreOfTypes fields made
answered_typed [] [] [] are answered = tt
answered_typed (field ∷ fields) (column ∷ columns) (m ∷ made) are answered =
    (by field.data_type are.0 answered.0, answered_typed fields columns made are.1 answered.1)
  where
    same : (t : DataType) → IsOfType t column.layout → m ≡ column → IsOfType t m.layout
    same t is e = subst (λ (c : ColumnAt). IsOfType t c.layout) (sym e) is

    by : (t : DataType) → IsDressable t column → IsAnswered t column m → IsOfType t m.layout
    by (Number kind) is e = same (Number kind) is e
    by Utf8 is e = same Utf8 is e
    by Flags is e = same Flags is e
    by (Dictionary encoding) is e = subst (IsOfType (Dictionary encoding)) (sym e.1.layout) tt
answered_typed [] [] (m ∷ made) are answered = absurd answered
answered_typed [] (column ∷ columns) made are answered = absurd are
answered_typed (field ∷ fields) [] made are answered = absurd are
answered_typed (field ∷ fields) (column ∷ columns) [] are answered = absurd answered

-- ---- cells

-- the cells of these columns, the first of which has this number among those of the rows
abbrev pub HaveCells : ℕ → Rows → List ColumnAt → Type 0
HaveCells number rows [] = Unit {0}
HaveCells number rows (column ∷ columns) = (cells_in number rows ≡ values_of column) × HaveCells (number + 1) rows columns

have_cells : (before columns : List ColumnAt) (rows number : ℕ) → length before ≡ number → AreLong rows (before ++ columns) →
    HaveCells number (rows_of (record { columns = before ++ columns; rows = rows })) columns
have_cells before [] rows number is long = tt
have_cells before (column ∷ columns) rows number is long = (
  column_cells (before ++ column ∷ columns) rows number column (there before number is)
      (ap (λ (c : ColumnAt). c.len) (sym (at before number is)) ∙ long number column (low before number is)),
  subst (λ (all : List ColumnAt). HaveCells (number + 1) (rows_of (record { columns = all; rows = rows })) columns) (one before)
      (have_cells (before ++ column ∷ []) columns rows (number + 1) (many before number is)
      (subst (AreLong rows) (sym (one before)) long)),
)
  where
    there : (before : List ColumnAt) (number : ℕ) → length before ≡ number → slice_get (before ++ column ∷ columns) number ≡ Some column
    there [] zero e = refl
    there [] (suc number) e = absurd (omega (arith, e))
    there (one ∷ before) zero e = absurd (omega (arith, e))
    there (one ∷ before) (suc number) e = there before number (omega (arith, e))

    at : (before : List ColumnAt) (number : ℕ) → length before ≡ number → get_or (before ++ column ∷ columns) number column ≡ column
    at [] zero e = refl
    at [] (suc number) e = absurd (omega (arith, e))
    at (one ∷ before) zero e = absurd (omega (arith, e))
    at (one ∷ before) (suc number) e = at before number (omega (arith, e))

    low : (before : List ColumnAt) (number : ℕ) → length before ≡ number → number < length (before ++ column ∷ columns)
    low [] number e = omega (arith, e)
    low (one ∷ before) zero e = absurd (omega (arith, e))
    low (one ∷ before) (suc number) e = omega (arith, low before number (omega (arith, e)))

    one : (before : List ColumnAt) → (before ++ column ∷ []) ++ columns ≡ before ++ column ∷ columns
    one [] = refl
    one (first ∷ before) = ap (λ (rest : List ColumnAt). first ∷ rest) (one before)

    many : (before : List ColumnAt) (number : ℕ) → length before ≡ number → length (before ++ column ∷ []) ≡ number + 1
    many [] number e = omega (arith, e)
    many (one ∷ before) zero e = absurd (omega (arith, e))
    many (one ∷ before) (suc number) e = omega (arith, many before number (omega (arith, e)))

pub batch_cells : (batch : BatchAt) → AreLong batch.rows batch.columns → HaveCells 0 (rows_of batch) batch.columns
batch_cells batch long = have_cells [] batch.columns batch.rows 0 refl long

-- ---- dictionaries

-- where the ids lead to the texts of the rows, each column is led by its dictionary
pub answered_led : (number : ℕ) (fields : List Field) (columns made : List ColumnAt) (rows : Rows) (dictionaries : Dictionaries) →
    AreAnswered fields columns made → AreNumbered number fields → HaveCells number rows columns → HasTexts (coded_from number fields) rows dictionaries →
    AreLedBy fields dictionaries made
answered_led number [] columns made rows dictionaries answered numbered cells has = tt
answered_led number (field ∷ fields) [] made rows dictionaries answered numbered cells has = absurd answered
answered_led number (field ∷ fields) (column ∷ columns) [] rows dictionaries answered numbered cells has = absurd answered
answered_led number (field ∷ fields) (column ∷ columns) (m ∷ made) rows dictionaries answered numbered cells has =
    let both = by field.data_type answered.0 numbered.0 has in
    (both.0, answered_led (number + 1) fields columns made rows dictionaries answered.1 numbered.1 cells.1 both.1)
  where
    by : (t : DataType) → IsAnswered t column m → IsNumbered number t → HasTexts (if is_coded t then number ∷ coded_from (number + 1) fields else coded_from (number + 1) fields) rows dictionaries →
        IsLedBy t (values_led_to t dictionaries) m.layout m × HasTexts (coded_from (number + 1) fields) rows dictionaries
    by (Number kind) is own has = (tt, has)
    by Utf8 is own has = (tt, has)
    by Flags is own has = (tt, has)
    by (Dictionary encoding) is own has =
        let over = is.1 in
        let led : values_under dictionaries encoding.id ≡ over.cells.dictionary =
        ap (values_under dictionaries) own.0 ∙ has.0 ∙ ap (λ (values : List Value). map Text (firsts values)) cells.0 ∙ sym over.dictionary in (
          subst (λ (l : Layout). IsLedBy (Dictionary encoding) (values_under dictionaries encoding.id) l m) (sym over.layout)
              (own.1 ∙ sym over.index, λ place under some. ap (λ (values : List Value). entry_at values (integer_at over.cells.index over.cells.values (m.first + place))) led),
          has.1,
        )

-- ---- messages

-- the messages of the dictionaries say all texts of the rows
pub dictionaries_whole : (schema : Schema) (number : ℕ) (fields : List Field) (columns : List ColumnAt) (seen : List (ℕ × List Value)) (sents : List Sent) (rows : Rows) (count : ℕ) →
    ((id : ℕ) → list_any (leads_to id) fields ≡ true → list_any (leads_to id) schema.fields ≡ true) →
    AreCodable fields columns → AreNumbered number fields → HaveCells number rows columns → AreLong count columns → count ≤ most_values →
    seen ≡ dictionaries_of number fields columns → AllZip (λ values sent. SaysValues sent values.0 values.1 false) seen sents →
    AllZip (λ number sent. SaysWhole schema number (firsts (cells_in number rows)) sent) (coded_from number fields) sents
dictionaries_whole schema number [] [] seen [] rows count within codable numbered cells long few is says = tt
dictionaries_whole schema number [] [] seen (sent ∷ sents) rows count within codable numbered cells long few is says =
    absurd (subst (λ (all : List (ℕ × List Value)). AllZip (λ values sent. SaysValues sent values.0 values.1 false) all (sent ∷ sents)) is says)
dictionaries_whole schema number [] (column ∷ columns) seen sents rows count within codable numbered cells long few is says = absurd codable
dictionaries_whole schema number (field ∷ fields) [] seen sents rows count within codable numbered cells long few is says = absurd codable
dictionaries_whole schema number (field ∷ fields) (column ∷ columns) seen sents rows count within codable numbered cells long few is says =
    by (λ (some : List Sent) said. dictionaries_whole schema (number + 1) fields columns (dictionaries_of (number + 1) fields columns) some rows count later codable.1 numbered.1 cells.1 longer few refl said)
    field.data_type refl (subst (λ (all : List (ℕ × List Value)). AllZip (λ values sent. SaysValues sent values.0 values.1 false) all sents) is says)
  where
    later : (id : ℕ) → list_any (leads_to id) fields ≡ true → list_any (leads_to id) schema.fields ≡ true
    later id any = within id (any_of (leads_to id field) any)
      where
        any_of : (first : Bool) → list_any (leads_to id) fields ≡ true → (first || list_any (leads_to id) fields) ≡ true
        any_of true any = refl
        any_of false any = any

    longer : AreLong count columns
    longer k d low = long (suc k) d (omega (arith, low))

    by : ((some : List Sent) → AllZip (λ values sent. SaysValues sent values.0 values.1 false) (dictionaries_of (number + 1) fields columns) some →
        AllZip (λ number sent. SaysWhole schema number (firsts (cells_in number rows)) sent) (coded_from (number + 1) fields) some) →
        (t : DataType) → field.data_type ≡ t →
        AllZip (λ values sent. SaysValues sent values.0 values.1 false)
        (map (λ values. (number, values)) (column_dictionary t column) ++ dictionaries_of (number + 1) fields columns) sents →
        AllZip (λ number sent. SaysWhole schema number (firsts (cells_in number rows)) sent)
        (if is_coded t then number ∷ coded_from (number + 1) fields else coded_from (number + 1) fields) sents
    by rest (Number kind) e says = rest sents says
    by rest Utf8 e says = rest sents says
    by rest Flags e says = rest sents says
    by rest (Dictionary encoding) e says = of sents says
      where
        own : IsNumbered number (Dictionary encoding)
        own = subst (IsNumbered number) e numbered.0

        leads : list_any (leads_to number) (field ∷ fields) ≡ true
        leads = ap (λ (t : DataType). has_id number t || list_any (leads_to number) fields) e
            ∙ ap (λ (b : Bool). b || list_any (leads_to number) fields) (eq-eqb encoding.id number own.0)

        many : length (firsts (values_of column)) ≤ most_values
        many = omega (arith, few_behind (values_of column) [], length-map-range_with_len (slot_of column) 0 column.len, long 0 column (omega arith), few)

        of : (sents : List Sent) → AllZip (λ values sent. SaysValues sent values.0 values.1 false)
            ((number, map Text (firsts (values_of column))) ∷ dictionaries_of (number + 1) fields columns) sents →
            AllZip (λ number sent. SaysWhole schema number (firsts (cells_in number rows)) sent) (number ∷ coded_from (number + 1) fields) sents
        of [] says = absurd says
        of (sent ∷ sents) says = (
          subst (λ (values : List Value). SaysWhole schema number (firsts values) sent) (sym cells.0)
              (whole_said schema number (firsts (values_of column)) sent says.0 (within number leads) many),
          rest sents says.1,
        )

-- ---- the batch

-- what says the batch over its own texts adds the rows
pub adds_rows : (schema : Schema) (batch made : BatchAt) (sent : Sent) → AreLong batch.rows batch.columns → AreNumbered 0 schema.fields →
    AreDressable schema.fields batch.columns → AreAnswered schema.fields batch.columns made.columns → rows_of made ≡ rows_of batch →
    SaysBatch sent made → AddsRows schema (rows_of batch) sent
adds_rows schema batch made sent long numbered are answered same says known is has =
    let typed = subst (λ (s : Schema). AreOfTypes s.fields made.columns) (sym is) (answered_typed schema.fields batch.columns made.columns are answered) in
    let led = subst (λ (s : Schema). AreLedBy s.fields known.dictionaries made.columns) (sym is)
    (answered_led 0 schema.fields batch.columns made.columns (rows_of batch) known.dictionaries answered numbered (batch_cells batch long) has) in
    let read = says known typed led in
    (read.0, read.1, read.2 ∙ same)
