-- The columns that are read are of the types of their fields.
use Rattle.std.proofs.Common.{◌≡◌, ℕ, suc, ◌*◌, ◌==◌, nat_le, Bool, List, [], ◌∷◌, length, Option, Ok, refl, ap, sym, subst}
use Rattle.scan_base.specs.declared.fault.Fault.TheVariants.{BadBatch}
use Rattle.scan_base.specs.declared.value.Value.{Value}
use Rattle.scan_base.specs.Reading.{◌>>=◌, demand}
use Rattle.arrow_types.specs.declared.data_type.IntegerType.{IntegerType}
use Rattle.arrow_types.specs.declared.data_type.Cell.{Cell}
use Rattle.arrow_types.specs.declared.data_type.Cell.TheVariants as cell
use Rattle.arrow_types.specs.declared.data_type.DataType.{DataType}
use Rattle.arrow_types.specs.declared.data_type.DataType.TheVariants.{Number, Utf8, Bool as Flags, Dictionary}
use Rattle.arrow_types.specs.DataType.{cell_of}
use Rattle.arrow_types.specs.declared.schema.Field.{Field}
use Rattle.arrays.specs.declared.layout.Layout.{Layout}
use Rattle.arrays.specs.declared.layout.Layout.TheVariants as layout
use Rattle.arrays.specs.Number.{byte_width}
use Rattle.arrays.specs.Validity.{validity_of}
use Rattle.arrays.specs.Integers.{IntegersAt, integers_of}
use Rattle.arrays.specs.Decimals.{DecimalsAt, decimals_of}
use Rattle.arrays.specs.Bools.{BoolsAt, bools_of}
use Rattle.arrays.specs.Texts.{TextsAt}
use Rattle.arrays.specs.Indices.{IndicesAt, indices_of}
use Rattle.arrays.specs.Buffers.{numbers_layout, values_layout}
use Rattle.arrays.specs.Column.{ColumnAt, whole}
use Rattle.arrays.specs.TypedLayouts.{LieIn, IsOfType, AreOfTypes}
use Rattle.ipc_batch.specs.declared.parts.FieldNode.{FieldNode}
use Rattle.ipc_batch.specs.declared.parts.BufferPlace.{BufferPlace}
use Rattle.ipc_batch.specs.Parts.{buffer_at}
use Rattle.ipc_batch.specs.Columns.{FrontAt, validity_at, texts_in_buffers, values_in_buffers, values_led_to, texts_front, values_front, front_of, columns_from}
use Rattle.ipc_batch.specs.State.{Dictionaries}
use Rattle.ipc_batch.proofs.Lengths.{fine, both, demanded}

integers_typed : (integer : IntegerType) (validity : Option (List ℕ)) (values : List ℕ) (len : ℕ) (cells : IntegersAt) → integers_of integer validity values len ≡ Ok cells → cells.integer ≡ integer
unfolding integers_of
integers_typed integer validity values len cells e =
    let made = λ (bits : Option (List Bool)). fine (record { integer = integer; validity = bits; values = values; len = len }) in
    let room = nat_le (byte_width integer * len) (length values) in
    let a = both (validity_of validity len) (λ (bits : Option (List Bool)). (demand room BadBatch >>= λ _. made bits)) cells e in
    let b = demanded room BadBatch (made a.0) cells a.2 in
    let same : record { integer = integer; validity = a.0; values = values; len = len } ≡ cells = cc in
    sym (ap (λ (x : IntegersAt). x.integer) same)

numbers_typed : (cell : Cell) (validity : Option (List ℕ)) (values : List ℕ) (len : ℕ) (found : Layout) → numbers_layout cell validity values len ≡ Ok found → LieIn cell found
numbers_typed (cell.Integer integer) validity values len found e =
    let a = both (integers_of integer validity values len) (λ (cells : IntegersAt). fine (layout.Integers cells)) found e in
    let same : layout.Integers a.0 ≡ found = let b = a.2 in cc in
    subst (LieIn (cell.Integer integer)) same (integers_typed integer validity values len a.0 a.1)
numbers_typed cell.Wide validity values len found e =
    let a = both (decimals_of validity values len) (λ (cells : DecimalsAt). fine (layout.Decimals cells)) found e in
    let same : layout.Decimals a.0 ≡ found = let b = a.2 in cc in
    subst (LieIn cell.Wide) same tt

layout_typed : (data_type : DataType) (dictionary : List Value) (validity : Option (List ℕ)) (values : List ℕ) (len : ℕ) (found : Layout) →
    values_layout data_type dictionary validity values len ≡ Ok found → IsOfType data_type found
unfolding values_layout
layout_typed (Number kind) dictionary validity values len found e = numbers_typed (cell_of kind) validity values len found e
layout_typed Utf8 dictionary validity values len found e = cc
layout_typed Flags dictionary validity values len found e =
    let a = both (bools_of validity values len) (λ (cells : BoolsAt). fine (layout.Bools cells)) found e in
    let same : layout.Bools a.0 ≡ found = let b = a.2 in cc in
    subst (IsOfType Flags) same tt
layout_typed (Dictionary encoding) dictionary validity values len found e =
    let a = both (indices_of encoding.index validity values dictionary len) (λ (cells : IndicesAt). fine (layout.Indices cells)) found e in
    let same : layout.Indices a.0 ≡ found = let b = a.2 in cc in
    subst (IsOfType (Dictionary encoding)) same tt

texts_typed : (rows : ℕ) (body : List ℕ) (node : FieldNode) (places : List BufferPlace) (front : FrontAt) → texts_front rows body node places ≡ Ok front → IsOfType Utf8 front.layout
texts_typed rows body node (validity ∷ offsets ∷ bytes ∷ behind) front e =
    let a = both (texts_in_buffers rows body node validity offsets bytes) (λ (cells : TextsAt). fine (record { layout = layout.Texts cells; behind = behind })) front e in
    let same : record { layout = layout.Texts a.0; behind = behind } ≡ front = let b = a.2 in cc in
    subst (λ (x : FrontAt). IsOfType Utf8 x.layout) same tt
texts_typed rows body node (offsets ∷ bytes ∷ []) front e = cc
texts_typed rows body node (bytes ∷ []) front e = cc
texts_typed rows body node [] front e = cc

at_typed : (data_type : DataType) (dictionary : List Value) (rows : ℕ) (body : List ℕ) (node : FieldNode) (validity values : BufferPlace) (found : Layout) →
    values_in_buffers data_type dictionary rows body node validity values ≡ Ok found → IsOfType data_type found
unfolding values_in_buffers
at_typed data_type dictionary rows body node validity values found e =
    let last = λ (bits : Option (List ℕ)) (packed : List ℕ). values_layout data_type dictionary bits packed rows in
    let a = demanded (node.length == rows) BadBatch (validity_at body node validity >>= λ bits. (buffer_at body values >>= λ packed. last bits packed)) found e in
    let b = both (validity_at body node validity) (λ (bits : Option (List ℕ)). (buffer_at body values >>= λ packed. last bits packed)) found a in
    let c = both (buffer_at body values) (last b.0) found b.2 in
    layout_typed data_type dictionary b.0 c.0 rows found c.2

values_typed : (data_type : DataType) (dictionary : List Value) (rows : ℕ) (body : List ℕ) (node : FieldNode) (places : List BufferPlace) (front : FrontAt) →
    values_front data_type dictionary rows body node places ≡ Ok front → IsOfType data_type front.layout
values_typed data_type dictionary rows body node (validity ∷ values ∷ behind) front e =
    let a = both (values_in_buffers data_type dictionary rows body node validity values) (λ (found : Layout). fine (record { layout = found; behind = behind })) front e in
    let same : record { layout = a.0; behind = behind } ≡ front = let b = a.2 in cc in
    subst (λ (x : FrontAt). IsOfType data_type x.layout) same (at_typed data_type dictionary rows body node validity values a.0 a.1)
values_typed data_type dictionary rows body node (values ∷ []) front e = cc
values_typed data_type dictionary rows body node [] front e = cc

front_typed : (data_type : DataType) (dictionaries : Dictionaries) (rows : ℕ) (body : List ℕ) (node : FieldNode) (places : List BufferPlace) (front : FrontAt) →
    front_of data_type dictionaries rows body node places ≡ Ok front → IsOfType data_type front.layout
unfolding front_of
front_typed Utf8 dictionaries rows body node places front e = texts_typed rows body node places front e
front_typed (Number kind) dictionaries rows body node places front e = values_typed (Number kind) [] rows body node places front e
front_typed Flags dictionaries rows body node places front e = values_typed Flags [] rows body node places front e
front_typed (Dictionary encoding) dictionaries rows body node places front e =
    values_typed (Dictionary encoding) (values_led_to (Dictionary encoding) dictionaries) rows body node places front e

-- there is a column for each field, of its type
pub columns_typed : (fields : List Field) (dictionaries : Dictionaries) (rows : ℕ) (body : List ℕ) (nodes : List FieldNode) (places : List BufferPlace) (columns : List ColumnAt) →
    columns_from fields dictionaries rows body nodes places ≡ Ok columns → AreOfTypes fields columns
columns_typed [] dictionaries rows body nodes places columns e =
    let same : [] ≡ columns = cc in
    subst (AreOfTypes []) same tt
columns_typed (field ∷ fields) dictionaries rows body [] places columns e = cc
columns_typed (field ∷ fields) dictionaries rows body (node ∷ nodes) places columns e =
    let others = λ (f : FrontAt). columns_from fields dictionaries rows body nodes f.behind in
    let a = both (front_of field.data_type dictionaries rows body node places) (λ (f : FrontAt). (others f >>= λ more. Ok (whole f.layout ∷ more))) columns e in
    let f = a.0 in
    let b = both (others f) (λ (more : List ColumnAt). fine (whole f.layout ∷ more)) columns a.2 in
    let same : whole f.layout ∷ b.0 ≡ columns = let c = b.2 in cc in
    subst (AreOfTypes (field ∷ fields)) same
    (front_typed field.data_type dictionaries rows body node places f a.1, columns_typed fields dictionaries rows body nodes f.behind b.0 b.1)

pub columns_many : (fields : List Field) (columns : List ColumnAt) → AreOfTypes fields columns → length columns ≡ length fields
columns_many [] [] are = refl
columns_many [] (column ∷ columns) are = absurd are
columns_many (field ∷ fields) [] are = absurd are
columns_many (field ∷ fields) (column ∷ columns) are = ap suc (columns_many fields columns are.1)
