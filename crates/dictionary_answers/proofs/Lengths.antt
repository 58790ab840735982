-- How many bytes are written of a batch over its own texts, and of their dictionaries.
use Rattle.std.proofs.Common.{◌≡◌, ◌≤◌, ◌<◌, ℕ, zero, suc, ◌+◌, ◌*◌, ◌-◌, ◌%◌, ◌==◌, not, List, [], ◌∷◌, ◌++◌, length, map, take, drop, if◌then◌else◌, refl, sym, ap, subst, ◌∙◌, arith}
use Rattle.std.specs.List.{filter, range_with_len}
use Rattle.std.proofs.lemmas.List.{length-map, length-take}
use Rattle.std.proofs.lemmas.List.FromFn.{length-map-range_with_len}
use Rattle.scan_base.specs.declared.value.Value.{Value}
use Rattle.scan_base.specs.declared.value.Value.TheVariants.{Text}
use Rattle.scan_base.specs.Value.{is_null}
use Rattle.arrow_types.specs.declared.data_type.DataType.{DataType}
use Rattle.arrow_types.specs.declared.data_type.DataType.TheVariants.{Number, Utf8, Bool as Flags, Dictionary}
use Rattle.arrow_types.specs.declared.schema.Field.{Field}
use Rattle.arrays.specs.declared.layout.Layout.{Layout}
use Rattle.arrays.specs.declared.layout.Layout.TheVariants as layout
use Rattle.arrays.specs.Number.{byte_width}
use Rattle.arrays.specs.Column.{ColumnAt, slot_of, values_of, whole}
use Rattle.arrays.specs.Firsts.{firsts}
use Rattle.arrays.specs.Texts.{TextsAt, texts_values}
use Rattle.arrays.specs.WrittenSlots.{elements, offsets_from, texts_joined}
use Rattle.arrays.proofs.Offsets.{length-offsets}
use Rattle.array_buffers.specs.ColumnBuffers.{packed_bits, validity_written, values_written, written_by, buffers_written as column_written}
use Rattle.dictionary_answers.specs.declared.batches.ColumnDictionary.{ColumnDictionary}
use Rattle.dictionary_answers.specs.Answer.{IsAnswered, AreAnswered, LiesOver, column_bytes, coded_bytes, column_dictionary, dictionaries_of, dictionary_seen}
use Rattle.dictionary_answers.specs.Firsts.{bytes_in}
use Rattle.ipc_batch.specs.WrittenMessages.{body_of, body_length, batch_buffers_written, values_batch}
use Rattle.ipc_batch.proofs.DictionaryAgain.{texts_whole}
use Rattle.ipc_batch.proofs.WriterLoops.{buffer_more, length_more}
use Rattle.dictionary_answers.specs.Lengths.{with_zeros, texts_length, column_length, dressed_length}
use Rattle.dictionary_answers.specs.inside.WrittenLengths.{written_length, all_written}

-- ---- buffers

more_zeros : (a b : ℕ) → a ≤ b → with_zeros a ≤ with_zeros b
more_zeros a b low = omega (arith, low)

-- one buffer before others
first_buffer : (buffer : List ℕ) (more : List (List ℕ)) → length (body_of (buffer ∷ more)) ≡ with_zeros (length buffer) + length (body_of more)
first_buffer buffer more = buffer_more (buffer ∷ more) 0 (omega arith)

two_buffers : (a b : List ℕ) → length (body_of (a ∷ b ∷ [])) ≡ with_zeros (length a) + with_zeros (length b)
two_buffers a b = omega (arith, first_buffer a (b ∷ []), first_buffer b [])

three_buffers : (a b c : List ℕ) → length (body_of (a ∷ b ∷ c ∷ [])) ≡ with_zeros (length a) + (with_zeros (length b) + with_zeros (length c))
three_buffers a b c = omega (arith, first_buffer a (b ∷ c ∷ []), two_buffers b c)

-- ---- a dictionary

none_null : (texts : List (List ℕ)) → filter is_null (map Text texts) ≡ []
none_null [] = refl
none_null (text ∷ texts) = none_null texts

-- texts alone have no validity bits
no_validity : (column : ColumnAt) (texts : List (List ℕ)) → values_of column ≡ map Text texts → validity_written column ≡ []
unfolding validity_written
no_validity column texts is =
    ap (λ (values : List Value). if length (filter is_null values) == 0 then [] else packed_bits (map (λ (value : Value). not (is_null value)) values)) is
    ∙ rw (none_null texts) refl

all_three : (a b c d e f : ℕ) → a ≡ d → b ≡ e → c ≡ f → with_zeros a + (with_zeros b + with_zeros c) ≡ with_zeros d + (with_zeros e + with_zeros f)
all_three a b c d e f first second third = rw (first, second, third) refl

nothing_first : (n : ℕ) → with_zeros 0 + n ≡ n
nothing_first n = omega arith

-- how long a dictionary's body is
pub one_dictionary : (values : TextsAt) (texts : List (List ℕ)) → texts_values values ≡ map Text texts → body_length (values_batch values) ≡ texts_length texts
unfolding values_written
one_dictionary values texts is =
    let column = whole (layout.Texts values) in
    let held : values_of column ≡ map Text texts = texts_whole values ∙ is in
    let all : body_length (values_batch values)
    ≡ with_zeros (length (validity_written column)) + (with_zeros (length (offsets_from 0 (values_of column))) + with_zeros (length (texts_joined (values_of column)))) =
    three_buffers (validity_written column) (offsets_from 0 (values_of column)) (texts_joined (values_of column)) in
    let none : length (validity_written column) ≡ 0 = ap length (no_validity column texts held) in
    let offsets : length (offsets_from 0 (values_of column)) ≡ 4 * (length texts + 1) =
    length-offsets 0 (values_of column) ∙ ap (λ (vs : List Value). 4 * (length vs + 1)) held ∙ ap (λ (n : ℕ). 4 * (n + 1)) (length-map texts Text) in
    let bytes : length (texts_joined (values_of column)) ≡ bytes_in texts = ap (λ (vs : List Value). length (texts_joined vs)) held in
    all ∙ all_three _ _ _ 0 (4 * (length texts + 1)) (bytes_in texts) none offsets bytes
    ∙ nothing_first (texts_length texts)

-- ---- a column of indices

same_validity : (made column : ColumnAt) → values_of made ≡ values_of column → validity_written made ≡ validity_written column
unfolding validity_written
same_validity made column same =
    ap (λ (values : List Value). if length (filter is_null values) == 0 then [] else packed_bits (map (λ (value : Value). not (is_null value)) values)) same

same_len : (made column : ColumnAt) → values_of made ≡ values_of column → made.len ≡ column.len
same_len made column same =
    omega (arith, ap length same, length-map-range_with_len (slot_of made) 0 made.len, length-map-range_with_len (slot_of column) 0 column.len)

short_elements : (values : List ℕ) (first len : ℕ) → length (elements 4 values first len) ≤ 4 * len
short_elements values first len =
    let room : 4 * (first + len) - 4 * first ≡ 4 * len = omega arith in
    omega (arith, room, length-take (4 * (first + len) - 4 * first) (drop (4 * first) values))

-- how long its body is
indices_length : (texts : List (List ℕ)) (column made : ColumnAt) → values_of made ≡ values_of column → LiesOver texts made →
    length (body_of (column_written made)) ≤ with_zeros (length (validity_written column)) + with_zeros (4 * column.len)
unfolding values_written
indices_length texts column made same over =
    let values = elements (byte_width over.cells.index) over.cells.values made.first made.len in
    let written : column_written made ≡ validity_written made ∷ values ∷ [] =
    ap (λ (known : Layout). validity_written made ∷ written_by known made) over.layout in
    let short : length values ≤ 4 * made.len =
    subst (λ (n : ℕ). length (elements n over.cells.values made.first made.len) ≤ 4 * made.len) (sym (ap byte_width over.index)) (short_elements over.cells.values made.first made.len) in
    let both : length (body_of (column_written made)) ≡ with_zeros (length (validity_written made)) + with_zeros (length values) =
    ap (λ (buffers : List (List ℕ)). length (body_of buffers)) written ∙ two_buffers (validity_written made) values in
    let bits : with_zeros (length (validity_written made)) ≡ with_zeros (length (validity_written column)) = ap (λ (v : List ℕ). with_zeros (length v)) (same_validity made column same) in
    let most : with_zeros (length values) ≤ with_zeros (4 * column.len) = more_zeros (length values) (4 * column.len) (omega (arith, short, same_len made column same)) in
    omega (arith, both, bits, most)

-- ---- all columns

abbrev head : List (ℕ × List Value) → ℕ × List Value
head [] = (0, [])
head (one ∷ more) = one

abbrev tail : List (ℕ × List Value) → List (ℕ × List Value)
tail [] = []
tail (one ∷ more) = more

-- what is written has no more bytes than it may
pub written_short : (number : ℕ) (fields : List Field) (columns made : List ColumnAt) (dictionaries : List ColumnDictionary) → AreAnswered fields columns made →
    map dictionary_seen dictionaries ≡ dictionaries_of number fields columns →
    all_written dictionaries + length (body_of (batch_buffers_written made)) ≤ dressed_length fields columns
written_short number [] [] [] [] answered is = omega arith
written_short number [] [] [] (d ∷ dictionaries) answered is = absurd (omega (arith, ap length is))
written_short number (field ∷ fields) (column ∷ columns) (m ∷ made) dictionaries answered is =
    by (λ some are. written_short (number + 1) fields columns made some answered.1 are) field.data_type answered.0 is
  where
    behind : length (body_of (batch_buffers_written (m ∷ made))) ≡ length (body_of (column_written m)) + length (body_of (batch_buffers_written made))
    behind = length_more (m ∷ made) made 0 m refl

    same : ((some : List ColumnDictionary) → map dictionary_seen some ≡ dictionaries_of (number + 1) fields columns →
        all_written some + length (body_of (batch_buffers_written made)) ≤ dressed_length fields columns) → (t : DataType) → column_length t column ≡ length (body_of (column_written column)) → m ≡ column → map dictionary_seen dictionaries ≡ dictionaries_of (number + 1) fields columns →
        all_written dictionaries + length (body_of (batch_buffers_written (m ∷ made))) ≤ column_length t column + dressed_length fields columns
    same rest t long e are =
        let first : length (body_of (column_written m)) ≡ length (body_of (column_written column)) = ap (λ (c : ColumnAt). length (body_of (column_written c))) e in
        omega (arith, behind, rest dictionaries are, first, long)

    of : ((some : List ColumnDictionary) → map dictionary_seen some ≡ dictionaries_of (number + 1) fields columns →
        all_written some + length (body_of (batch_buffers_written made)) ≤ dressed_length fields columns) → (some : List ColumnDictionary) → (values_of m ≡ values_of column) × LiesOver (firsts (values_of column)) m →
        map dictionary_seen some ≡ (number, map Text (firsts (values_of column))) ∷ dictionaries_of (number + 1) fields columns →
        all_written some + length (body_of (batch_buffers_written (m ∷ made)))
        ≤ texts_length (firsts (values_of column)) + (with_zeros (length (validity_written column)) + with_zeros (4 * column.len)) + dressed_length fields columns
    of rest [] over are = absurd (omega (arith, ap length are))
    of rest (d ∷ some) over are =
        let texts : texts_values d.texts ≡ map Text (firsts (values_of column)) = ap (λ (all : List (ℕ × List Value)). (head all).1) are in
        let others : map dictionary_seen some ≡ dictionaries_of (number + 1) fields columns = ap tail are in
        omega (
          arith,
          behind,
          rest some others,
          one_dictionary d.texts (firsts (values_of column)) texts,
          indices_length (firsts (values_of column)) column m over.0 over.1,
        )

    by : ((some : List ColumnDictionary) → map dictionary_seen some ≡ dictionaries_of (number + 1) fields columns →
        all_written some + length (body_of (batch_buffers_written made)) ≤ dressed_length fields columns) → (t : DataType) → IsAnswered t column m → map dictionary_seen dictionaries ≡ map (λ values. (number, values)) (column_dictionary t column) ++ dictionaries_of (number + 1) fields columns →
        all_written dictionaries + length (body_of (batch_buffers_written (m ∷ made))) ≤ column_length t column + dressed_length fields columns
    by rest (Number kind) e are = same rest (Number kind) refl e are
    by rest Utf8 e are = same rest Utf8 refl e are
    by rest Flags e are = same rest Flags refl e are
    by rest (Dictionary encoding) over are = of rest dictionaries over are
written_short number [] [] (m ∷ made) dictionaries answered is = absurd answered
written_short number [] (column ∷ columns) made dictionaries answered is = absurd answered
written_short number (field ∷ fields) [] made dictionaries answered is = absurd answered
written_short number (field ∷ fields) (column ∷ columns) [] dictionaries answered is = absurd answered

-- texts alone have no more
pub coded_short : (fields : List Field) (columns : List ColumnAt) → coded_bytes fields columns ≤ dressed_length fields columns
coded_short [] columns = omega arith
coded_short (field ∷ fields) [] = omega arith
coded_short (field ∷ fields) (column ∷ columns) = omega (arith, one field.data_type, coded_short fields columns)
  where
    one : (t : DataType) → column_bytes t column ≤ column_length t column
    one (Number kind) = omega arith
    one Utf8 = omega arith
    one Flags = omega arith
    one (Dictionary encoding) = omega arith
