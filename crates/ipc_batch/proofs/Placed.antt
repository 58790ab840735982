-- Columns of which a node has another length, or a buffer lies outside, are refused, and for that.
use Rattle.std.proofs.Common.{◌≡◌, ℕ, suc, ◌+◌, ◌*◌, ◌==◌, ◌&&◌, nat_le, if◌then◌else◌, Bool, true, false, List, [], ◌∷◌, length, Option, Some, None, Result, Ok, Err, refl, arith, ap, ◌∙◌, subst}
use Rattle.std.specs.List.{list_all, range_with_len}
use Rattle.std.proofs.lemmas.Bool.{eqb-true}
use Rattle.std.proofs.lemmas.List.Sums.{sum_by-cons}
use Rattle.scan_base.specs.declared.fault.Fault.{Fault}
use Rattle.scan_base.specs.declared.fault.Fault.TheVariants.{BadBatch}
use Rattle.scan_base.specs.declared.value.Value.{Value}
use Rattle.scan_base.specs.Reading.{◌>>=◌, demand}
use Rattle.arrow_types.specs.declared.data_type.IntegerType.{IntegerType}
use Rattle.arrow_types.specs.declared.data_type.Cell.{Cell}
use Rattle.arrow_types.specs.declared.data_type.Cell.TheVariants as cell
use Rattle.arrow_types.specs.declared.data_type.DataType.{DataType}
use Rattle.arrow_types.specs.declared.data_type.DataType.TheVariants.{Number, Utf8, Bool as Flags, Dictionary}
use Rattle.arrow_types.specs.DataType.{cell_of}
use Rattle.arrow_types.specs.declared.schema.Field.{Field}
use Rattle.arrow_schema.specs.Header.{MessageAt, header_of}
use Rattle.arrow_schema.proofs.Readings.{bind_ok, demand_ok}
use Rattle.arrays.specs.declared.layout.Layout.{Layout}
use Rattle.arrays.specs.Number.{byte_width}
use Rattle.arrays.specs.Validity.{validity_of}
use Rattle.arrays.specs.Integers.{integers_of}
use Rattle.arrays.specs.Decimals.{decimals_of}
use Rattle.arrays.specs.Bools.{bools_of}
use Rattle.arrays.specs.Texts.{TextsAt, texts_of, texts_stand}
use Rattle.arrays.specs.Indices.{IndicesAt, indices_of, index_stands}
use Rattle.arrays.specs.Buffers.{buffer_count, numbers_layout, values_layout}
use Rattle.arrays.specs.Column.{ColumnAt}
use Rattle.ipc_batch.specs.declared.parts.FieldNode.{FieldNode}
use Rattle.ipc_batch.specs.declared.parts.BufferPlace.{BufferPlace}
use Rattle.ipc_batch.specs.Parts.{PartsAt, DictionaryParts, lies_in, placed_in, buffer_at, parts_of}
use Rattle.ipc_batch.specs.Columns.{FrontAt, validity_at, texts_in_buffers, values_in_buffers, values_led_to, texts_front, values_front, front_of, columns_from, buffers_wanted, counts_agree, columns_placed, one_texts}
use Rattle.ipc_batch.specs.State.{Known, Dictionaries}
use Rattle.ipc_batch.specs.News.{batch_parts, batch_sent, dictionary_sent, known_after}
use Rattle.ipc_batch.proofs.Only.{Only, only_then, only_demand}

-- ---- columns are refused by F8 alone

abbrev IsBad : Fault → Type 0
IsBad fault = fault ≡ BadBatch

bad : (holds : Bool) → Only IsBad (demand holds BadBatch)
bad holds = only_demand IsBad holds BadBatch refl

validity_bad : (validity : Option (List ℕ)) (len : ℕ) → Only IsBad (validity_of validity len)
validity_bad None len = tt
validity_bad (Some bytes) len = only_then IsBad (demand (nat_le len (8 * length bytes)) BadBatch) _ (bad (nat_le len (8 * length bytes))) (λ _. tt)

integers_bad : (integer : IntegerType) (validity : Option (List ℕ)) (values : List ℕ) (len : ℕ) → Only IsBad (integers_of integer validity values len)
unfolding integers_of
integers_bad integer validity values len =
    let room = nat_le (byte_width integer * len) (length values) in
    only_then IsBad (validity_of validity len) _ (validity_bad validity len) (λ bits. only_then IsBad (demand room BadBatch) _ (bad room) (λ _. tt))

decimals_bad : (validity : Option (List ℕ)) (values : List ℕ) (len : ℕ) → Only IsBad (decimals_of validity values len)
unfolding decimals_of
decimals_bad validity values len =
    let room = nat_le (16 * len) (length values) in
    only_then IsBad (validity_of validity len) _ (validity_bad validity len) (λ bits. only_then IsBad (demand room BadBatch) _ (bad room) (λ _. tt))

bools_bad : (validity : Option (List ℕ)) (values : List ℕ) (len : ℕ) → Only IsBad (bools_of validity values len)
unfolding bools_of
bools_bad validity values len =
    let room = nat_le len (8 * length values) in
    only_then IsBad (validity_of validity len) _ (validity_bad validity len) (λ bits. only_then IsBad (demand room BadBatch) _ (bad room) (λ _. tt))

indices_bad : (index : IntegerType) (validity : Option (List ℕ)) (values : List ℕ) (dictionary : List Value) (len : ℕ) → Only IsBad (indices_of index validity values dictionary len)
unfolding indices_of
indices_bad index validity values dictionary len =
    let room = nat_le (byte_width index * len) (length values) in
    let stand = λ (bits : Option (List Bool)).
    (let cells : IndicesAt = record { index = index; validity = bits; values = values; dictionary = dictionary; len = len } in
    list_all (index_stands cells) (range_with_len 0 len)) in
    only_then IsBad (validity_of validity len) _ (validity_bad validity len)
    (λ bits. only_then IsBad (demand room BadBatch) _ (bad room) (λ _. only_then IsBad (demand (stand bits) BadBatch) _ (bad (stand bits)) (λ _. tt)))

texts_bad : (validity : Option (List ℕ)) (offsets bytes : List ℕ) (len : ℕ) → Only IsBad (texts_of validity offsets bytes len)
unfolding texts_of
texts_bad validity offsets bytes len =
    let stand = λ (bits : Option (List Bool)). texts_stand (record { validity = bits; offsets = offsets; bytes = bytes; len = len }) in
    only_then IsBad (validity_of validity len) _ (validity_bad validity len) (λ bits. only_then IsBad (demand (stand bits) BadBatch) _ (bad (stand bits)) (λ _. tt))

numbers_bad : (cell : Cell) (validity : Option (List ℕ)) (values : List ℕ) (len : ℕ) → Only IsBad (numbers_layout cell validity values len)
numbers_bad (cell.Integer integer) validity values len = only_then IsBad (integers_of integer validity values len) _ (integers_bad integer validity values len) (λ cells. tt)
numbers_bad cell.Wide validity values len = only_then IsBad (decimals_of validity values len) _ (decimals_bad validity values len) (λ cells. tt)

layout_bad : (data_type : DataType) (dictionary : List Value) (validity : Option (List ℕ)) (values : List ℕ) (len : ℕ) → Only IsBad (values_layout data_type dictionary validity values len)
unfolding values_layout
layout_bad (Number kind) dictionary validity values len = numbers_bad (cell_of kind) validity values len
layout_bad Utf8 dictionary validity values len = refl
layout_bad Flags dictionary validity values len = only_then IsBad (bools_of validity values len) _ (bools_bad validity values len) (λ cells. tt)
layout_bad (Dictionary encoding) dictionary validity values len =
    only_then IsBad (indices_of encoding.index validity values dictionary len) _ (indices_bad encoding.index validity values dictionary len) (λ cells. tt)

buffer_bad : (body : List ℕ) (place : BufferPlace) → Only IsBad (buffer_at body place)
unfolding buffer_at
buffer_bad body place = only_then IsBad (placed_in body place) _ (bad (lies_in body place)) (λ _. tt)

bits_bad : (body : List ℕ) (node : FieldNode) (place : BufferPlace) → Only IsBad (validity_at body node place)
unfolding validity_at
bits_bad body node place = by (node.null_count == 0)
  where
    by : (none : Bool) → Only IsBad (if none then (placed_in body place >>= λ _. Ok None) else (buffer_at body place >>= λ bits. Ok (Some bits)))
    by true = only_then IsBad (placed_in body place) _ (bad (lies_in body place)) (λ _. tt)
    by false = only_then IsBad (buffer_at body place) _ (buffer_bad body place) (λ bits. tt)

texts_at_bad : (rows : ℕ) (body : List ℕ) (node : FieldNode) (validity offsets bytes : BufferPlace) → Only IsBad (texts_in_buffers rows body node validity offsets bytes)
unfolding texts_in_buffers
texts_at_bad rows body node validity offsets bytes =
    only_then IsBad (demand (node.length == rows) BadBatch) _ (bad (node.length == rows))
    (λ _. only_then IsBad (validity_at body node validity) _ (bits_bad body node validity)
    (λ bits. only_then IsBad (buffer_at body offsets) _ (buffer_bad body offsets)
    (λ cuts. only_then IsBad (buffer_at body bytes) _ (buffer_bad body bytes) (λ text. texts_bad bits cuts text rows))))

values_at_bad : (data_type : DataType) (dictionary : List Value) (rows : ℕ) (body : List ℕ) (node : FieldNode) (validity values : BufferPlace) →
    Only IsBad (values_in_buffers data_type dictionary rows body node validity values)
unfolding values_in_buffers
values_at_bad data_type dictionary rows body node validity values =
    only_then IsBad (demand (node.length == rows) BadBatch) _ (bad (node.length == rows))
    (λ _. only_then IsBad (validity_at body node validity) _ (bits_bad body node validity)
    (λ bits. only_then IsBad (buffer_at body values) _ (buffer_bad body values) (λ packed. layout_bad data_type dictionary bits packed rows)))

texts_front_bad : (rows : ℕ) (body : List ℕ) (node : FieldNode) (places : List BufferPlace) → Only IsBad (texts_front rows body node places)
texts_front_bad rows body node (validity ∷ offsets ∷ bytes ∷ behind) =
    only_then IsBad (texts_in_buffers rows body node validity offsets bytes) _ (texts_at_bad rows body node validity offsets bytes) (λ cells. tt)
texts_front_bad rows body node (offsets ∷ bytes ∷ []) = refl
texts_front_bad rows body node (bytes ∷ []) = refl
texts_front_bad rows body node [] = refl

values_front_bad : (data_type : DataType) (dictionary : List Value) (rows : ℕ) (body : List ℕ) (node : FieldNode) (places : List BufferPlace) →
    Only IsBad (values_front data_type dictionary rows body node places)
values_front_bad data_type dictionary rows body node (validity ∷ values ∷ behind) =
    only_then IsBad (values_in_buffers data_type dictionary rows body node validity values) _ (values_at_bad data_type dictionary rows body node validity values) (λ found. tt)
values_front_bad data_type dictionary rows body node (values ∷ []) = refl
values_front_bad data_type dictionary rows body node [] = refl

front_bad : (data_type : DataType) (dictionaries : Dictionaries) (rows : ℕ) (body : List ℕ) (node : FieldNode) (places : List BufferPlace) →
    Only IsBad (front_of data_type dictionaries rows body node places)
unfolding front_of
front_bad Utf8 dictionaries rows body node places = texts_front_bad rows body node places
front_bad (Number kind) dictionaries rows body node places = values_front_bad (Number kind) [] rows body node places
front_bad Flags dictionaries rows body node places = values_front_bad Flags [] rows body node places
front_bad (Dictionary encoding) dictionaries rows body node places =
    values_front_bad (Dictionary encoding) (values_led_to (Dictionary encoding) dictionaries) rows body node places

columns_bad : (fields : List Field) (dictionaries : Dictionaries) (rows : ℕ) (body : List ℕ) (nodes : List FieldNode) (places : List BufferPlace) →
    Only IsBad (columns_from fields dictionaries rows body nodes places)
columns_bad [] dictionaries rows body nodes places = tt
columns_bad (field ∷ fields) dictionaries rows body [] places = refl
columns_bad (field ∷ fields) dictionaries rows body (node ∷ nodes) places =
    only_then IsBad (front_of field.data_type dictionaries rows body node places) _ (front_bad field.data_type dictionaries rows body node places)
    (λ front. only_then IsBad (columns_from fields dictionaries rows body nodes front.behind) _ (columns_bad fields dictionaries rows body nodes front.behind) (λ others. tt))

-- ---- columns that are read are in their place

buffer_lies : (body : List ℕ) (place : BufferPlace) (bytes : List ℕ) → buffer_at body place ≡ Ok bytes → lies_in body place ≡ true
unfolding buffer_at
buffer_lies body place bytes e =
    let a = bind_ok (placed_in body place) _ bytes e in
    demand_ok (lies_in body place) BadBatch a.0 a.1

bits_lie : (body : List ℕ) (node : FieldNode) (place : BufferPlace) (bits : Option (List ℕ)) → validity_at body node place ≡ Ok bits → lies_in body place ≡ true
unfolding validity_at
bits_lie body node place bits e = by (node.null_count == 0) e
  where
    by : (none : Bool) → (if none then (placed_in body place >>= λ _. Ok None) else (buffer_at body place >>= λ bits. Ok (Some bits))) ≡ Ok bits → lies_in body place ≡ true
    by true e =
        let a = bind_ok (placed_in body place) _ bits e in
        demand_ok (lies_in body place) BadBatch a.0 a.1
    by false e =
        let a = bind_ok (buffer_at body place) _ bits e in
        buffer_lies body place a.0 a.1

-- a column was read of the buffers at the front: its node is as long as it has to be, and they lie within the body
record IsPlaced (rows : ℕ) (body : List ℕ) (node : FieldNode) (places : List BufferPlace) (own : ℕ) (front : FrontAt) : Type 0 where
  long : (node.length == rows) ≡ true
  lie : list_all (lies_in body) places ≡ list_all (lies_in body) front.behind
  count : length places ≡ own + length front.behind

texts_lie : (rows : ℕ) (body : List ℕ) (node : FieldNode) (validity offsets bytes : BufferPlace) (cells : TextsAt) → texts_in_buffers rows body node validity offsets bytes ≡ Ok cells →
    ((node.length == rows) ≡ true) × (lies_in body validity ≡ true) × (lies_in body offsets ≡ true) × (lies_in body bytes ≡ true)
unfolding texts_in_buffers
texts_lie rows body node validity offsets bytes cells e =
    let a = bind_ok (demand (node.length == rows) BadBatch) _ cells e in
    let b = bind_ok (validity_at body node validity) _ cells a.2 in
    let c = bind_ok (buffer_at body offsets) _ cells b.2 in
    let d = bind_ok (buffer_at body bytes) _ cells c.2 in
    (demand_ok (node.length == rows) BadBatch a.0 a.1, bits_lie body node validity b.0 b.1, buffer_lies body offsets c.0 c.1, buffer_lies body bytes d.0 d.1)

texts_placed : (rows : ℕ) (body : List ℕ) (node : FieldNode) (places : List BufferPlace) (front : FrontAt) → texts_front rows body node places ≡ Ok front → IsPlaced rows body node places 3 front
texts_placed rows body node (validity ∷ offsets ∷ bytes ∷ behind) front e =
    let a = bind_ok (texts_in_buffers rows body node validity offsets bytes) _ front e in
    let h = texts_lie rows body node validity offsets bytes a.0 a.1 in
    let same : behind ≡ front.behind = let last = a.2 in cc in
    let many : length behind ≡ length front.behind = ap (λ (ps : List BufferPlace). length ps) same in
    record { long = h.0; lie = rw (h.1, h.2, h.3, same) refl; count = omega (arith, many) }
texts_placed rows body node (offsets ∷ bytes ∷ []) front e = absurd (let no : ⊥ = cc in no)
texts_placed rows body node (bytes ∷ []) front e = absurd (let no : ⊥ = cc in no)
texts_placed rows body node [] front e = absurd (let no : ⊥ = cc in no)

values_lie : (data_type : DataType) (dictionary : List Value) (rows : ℕ) (body : List ℕ) (node : FieldNode) (validity values : BufferPlace) (found : Layout) →
    values_in_buffers data_type dictionary rows body node validity values ≡ Ok found → ((node.length == rows) ≡ true) × (lies_in body validity ≡ true) × (lies_in body values ≡ true)
unfolding values_in_buffers
values_lie data_type dictionary rows body node validity values found e =
    let a = bind_ok (demand (node.length == rows) BadBatch) _ found e in
    let b = bind_ok (validity_at body node validity) _ found a.2 in
    let c = bind_ok (buffer_at body values) _ found b.2 in
    (demand_ok (node.length == rows) BadBatch a.0 a.1, bits_lie body node validity b.0 b.1, buffer_lies body values c.0 c.1)

values_placed : (data_type : DataType) (dictionary : List Value) (rows : ℕ) (body : List ℕ) (node : FieldNode) (places : List BufferPlace) (front : FrontAt) →
    values_front data_type dictionary rows body node places ≡ Ok front → IsPlaced rows body node places 2 front
values_placed data_type dictionary rows body node (validity ∷ values ∷ behind) front e =
    let a = bind_ok (values_in_buffers data_type dictionary rows body node validity values) _ front e in
    let h = values_lie data_type dictionary rows body node validity values a.0 a.1 in
    let same : behind ≡ front.behind = let last = a.2 in cc in
    let many : length behind ≡ length front.behind = ap (λ (ps : List BufferPlace). length ps) same in
    record { long = h.0; lie = rw (h.1, h.2, same) refl; count = omega (arith, many) }
values_placed data_type dictionary rows body node (values ∷ []) front e = absurd (let no : ⊥ = cc in no)
values_placed data_type dictionary rows body node [] front e = absurd (let no : ⊥ = cc in no)

front_placed : (data_type : DataType) (dictionaries : Dictionaries) (rows : ℕ) (body : List ℕ) (node : FieldNode) (places : List BufferPlace) (front : FrontAt) →
    front_of data_type dictionaries rows body node places ≡ Ok front → IsPlaced rows body node places (buffer_count data_type) front
unfolding front_of
front_placed Utf8 dictionaries rows body node places front e = texts_placed rows body node places front e
front_placed (Number kind) dictionaries rows body node places front e = values_placed (Number kind) [] rows body node places front e
front_placed Flags dictionaries rows body node places front e = values_placed Flags [] rows body node places front e
front_placed (Dictionary encoding) dictionaries rows body node places front e =
    values_placed (Dictionary encoding) (values_led_to (Dictionary encoding) dictionaries) rows body node places front e

-- the length of each node, and the place of each buffer
abbrev ArePlaced : ℕ → List ℕ → List FieldNode → List BufferPlace → Type 0
ArePlaced rows body nodes places = (list_all (λ node. node.length == rows) nodes ≡ true) × (list_all (lies_in body) places ≡ true)

read_placed : (fields : List Field) (dictionaries : Dictionaries) (rows : ℕ) (body : List ℕ) (nodes : List FieldNode) (places : List BufferPlace) (columns : List ColumnAt) →
    length nodes ≡ length fields → length places ≡ buffers_wanted fields → columns_from fields dictionaries rows body nodes places ≡ Ok columns → ArePlaced rows body nodes places
read_placed [] dictionaries rows body [] [] columns many count e = (refl, refl)
read_placed [] dictionaries rows body [] (place ∷ places) columns many count e = absurd (let no : suc (length places) ≡ 0 = count in omega arith)
read_placed [] dictionaries rows body (node ∷ nodes) places columns many count e = absurd (let no : suc (length nodes) ≡ 0 = many in omega arith)
read_placed (field ∷ fields) dictionaries rows body [] places columns many count e = absurd (let no : ⊥ = cc in no)
read_placed (field ∷ fields) dictionaries rows body (node ∷ nodes) places columns many count e =
    let a = bind_ok (front_of field.data_type dictionaries rows body node places) _ columns e in
    let b = bind_ok (columns_from fields dictionaries rows body nodes a.0.behind) _ columns a.2 in
    let here = front_placed field.data_type dictionaries rows body node places a.0 a.1 in
    let wanted : length places ≡ buffer_count field.data_type + buffers_wanted fields = count ∙ sum_by-cons (λ (f : Field). buffer_count f.data_type) field fields in
    let left : length a.0.behind ≡ buffers_wanted fields = let c = here.count in omega arith in
    let rest = read_placed fields dictionaries rows body nodes a.0.behind b.0 (omega (arith, many)) left b.1 in
    (rw (here.long, rest.0) refl, here.lie ∙ rest.1)

-- ---- so those that are not are refused

-- what a test says, and what is read after it
by_test : {A : Type 0} (placed : Bool) (read : Result A Fault) (fault : Fault) → demand placed BadBatch ≡ Err fault → Only IsBad read → ((x : A) → read ≡ Ok x → placed ≡ true) → read ≡ Err fault
by_test true read fault e bad ok = absurd (let no : ⊥ = cc in no)
by_test false (Ok x) fault e bad ok = absurd (let no = ok x refl in let none : ⊥ = cc in none)
by_test false (Err one) fault e bad ok = let same : BadBatch ≡ fault = cc in ap (λ (x : Fault). Err x) (bad ∙ same)

placed_test : (parts : PartsAt) (body : List ℕ) → ArePlaced parts.rows body parts.nodes parts.places →
    (list_all (λ node. node.length == parts.rows) parts.nodes && list_all (lies_in body) parts.places) ≡ true
placed_test parts body are = rw (are.0, are.1) refl

pub unplaced_columns : (fields : List Field) (dictionaries : Dictionaries) (body : List ℕ) (parts : PartsAt) (fault : Fault) →
    length parts.nodes ≡ length fields → length parts.places ≡ buffers_wanted fields → columns_placed body parts ≡ Err fault →
    columns_from fields dictionaries parts.rows body parts.nodes parts.places ≡ Err fault
unfolding columns_placed
unplaced_columns fields dictionaries body parts fault many count e =
    by_test _ (columns_from fields dictionaries parts.rows body parts.nodes parts.places) fault e (columns_bad fields dictionaries parts.rows body parts.nodes parts.places)
    (λ columns ok. placed_test parts body (read_placed fields dictionaries parts.rows body parts.nodes parts.places columns many count ok))

counts_told : (nodes buffers : ℕ) (parts : PartsAt) (u : Unit {0}) → counts_agree nodes buffers parts ≡ Ok u → (length parts.nodes ≡ nodes) × (length parts.places ≡ buffers)
unfolding counts_agree
counts_told nodes buffers parts u e =
    let a = bind_ok (demand (length parts.nodes == nodes) BadBatch) _ u e in
    (eqb-true (length parts.nodes) nodes (demand_ok (length parts.nodes == nodes) BadBatch a.0 a.1), eqb-true (length parts.places) buffers (demand_ok (length parts.places == buffers) BadBatch u a.2))

parts_counted : (known : Known) (message : MessageAt) (body : List ℕ) (parts : PartsAt) → batch_parts known message body ≡ Ok parts →
    (length parts.nodes ≡ length known.schema.fields) × (length parts.places ≡ buffers_wanted known.schema.fields)
unfolding batch_parts
parts_counted known message body parts e =
    let a = bind_ok (header_of message) _ parts e in
    let b = bind_ok (parts_of message a.0 body) _ parts a.2 in
    let c = bind_ok (counts_agree (length known.schema.fields) (buffers_wanted known.schema.fields) b.0) _ parts b.2 in
    let same : b.0 ≡ parts = let last = c.2 in cc in
    counts_told (length known.schema.fields) (buffers_wanted known.schema.fields) parts c.0 (subst (λ (x : PartsAt). counts_agree (length known.schema.fields) (buffers_wanted known.schema.fields) x ≡ Ok c.0) same c.1)

-- a record batch whose columns are not in their place
pub unplaced_batch : (known : Known) (message : MessageAt) (body : List ℕ) (parts : PartsAt) (fault : Fault) → batch_parts known message body ≡ Ok parts → columns_placed body parts ≡ Err fault →
    batch_sent known message body ≡ Err fault
unfolding batch_sent
unplaced_batch known message body parts fault read e =
    let counted = parts_counted known message body parts read in
    rw (read, unplaced_columns known.schema.fields known.dictionaries body parts fault counted.0 counted.1 e) refl

one_bad : (rows : ℕ) (body : List ℕ) (nodes : List FieldNode) (places : List BufferPlace) → Only IsBad (one_texts rows body nodes places)
one_bad rows body (node ∷ []) (validity ∷ offsets ∷ bytes ∷ []) = texts_at_bad rows body node validity offsets bytes
one_bad rows body (node ∷ []) (validity ∷ offsets ∷ bytes ∷ more ∷ places) = refl
one_bad rows body (node ∷ []) (offsets ∷ bytes ∷ []) = refl
one_bad rows body (node ∷ []) (bytes ∷ []) = refl
one_bad rows body (node ∷ []) [] = refl
one_bad rows body (node ∷ more ∷ nodes) places = refl
one_bad rows body [] places = refl

one_placed : (rows : ℕ) (body : List ℕ) (nodes : List FieldNode) (places : List BufferPlace) (cells : TextsAt) → one_texts rows body nodes places ≡ Ok cells → ArePlaced rows body nodes places
one_placed rows body (node ∷ []) (validity ∷ offsets ∷ bytes ∷ []) cells e =
    let h = texts_lie rows body node validity offsets bytes cells e in
    (rw h.0 refl, rw (h.1, h.2, h.3) refl)
one_placed rows body (node ∷ []) (validity ∷ offsets ∷ bytes ∷ more ∷ places) cells e = absurd (let no : ⊥ = cc in no)
one_placed rows body (node ∷ []) (offsets ∷ bytes ∷ []) cells e = absurd (let no : ⊥ = cc in no)
one_placed rows body (node ∷ []) (bytes ∷ []) cells e = absurd (let no : ⊥ = cc in no)
one_placed rows body (node ∷ []) [] cells e = absurd (let no : ⊥ = cc in no)
one_placed rows body (node ∷ more ∷ nodes) places cells e = absurd (let no : ⊥ = cc in no)
one_placed rows body [] places cells e = absurd (let no : ⊥ = cc in no)

unplaced_texts : (body : List ℕ) (parts : PartsAt) (fault : Fault) → columns_placed body parts ≡ Err fault → one_texts parts.rows body parts.nodes parts.places ≡ Err fault
unfolding columns_placed
unplaced_texts body parts fault e =
    by_test _ (one_texts parts.rows body parts.nodes parts.places) fault e (one_bad parts.rows body parts.nodes parts.places)
    (λ cells ok. placed_test parts body (one_placed parts.rows body parts.nodes parts.places cells ok))

-- a dictionary whose column is not in its place
pub unplaced_dictionary : (known : Known) (message : MessageAt) (body : List ℕ) (sent : DictionaryParts) (fault : Fault) → dictionary_sent known message body ≡ Ok sent →
    columns_placed body sent.parts ≡ Err fault → known_after known message body ≡ Err fault
unfolding known_after
unplaced_dictionary known message body sent fault read e = rw (read, unplaced_texts body sent.parts fault e) refl
