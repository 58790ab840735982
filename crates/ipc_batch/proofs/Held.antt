-- What is read of a body is what it holds.
use Rattle.std.proofs.Common.{◌≡◌, ℕ, zero, suc, ◌+◌, ◌==◌, nat_le, if◌then◌else◌, Bool, true, false, List, [], ◌∷◌, length, take, drop, Option, Some, None, Ok, Err, refl, arith, sym, ap, ◌∙◌, subst}
use Rattle.std.specs.Prelude.{slice_get}
use Rattle.std.proofs.Math.Path.{fun_ext}
use Rattle.std.proofs.lemmas.Bool.{eq-eqb, eqb-true, leb-true, le-leb}
use Rattle.std.proofs.lemmas.List.Sums.{sum_by-cons}
use Rattle.scan_base.specs.declared.fault.Fault.TheVariants.{BadFlatbuffer, BadBatch}
use Rattle.scan_base.specs.Reading.{◌>>=◌, demand}
use Rattle.flatbuf.specs.Layout.{Stands}
use Rattle.flatbuf.specs.Place.{bytes_at}
use Rattle.flatbuf.proofs.Readings.{seen_finds, seen_bytes}
use Rattle.arrow_types.specs.declared.data_type.DataType.{DataType}
use Rattle.arrow_types.specs.declared.data_type.DataType.TheVariants.{Number, Utf8, Bool as Flags, Dictionary}
use Rattle.arrow_types.specs.declared.schema.Field.{Field}
use Rattle.arrow_schema.proofs.Readings.{bind_ok, demand_ok}
use Rattle.arrays.specs.declared.layout.Layout.{Layout}
use Rattle.arrays.specs.declared.layout.Layout.TheVariants.{Texts}
use Rattle.arrays.specs.Texts.{TextsAt}
use Rattle.arrays.specs.Column.{ColumnAt, whole}
use Rattle.arrays.specs.Buffers.{buffer_count}
use Rattle.ipc_batch.specs.declared.parts.FieldNode.{FieldNode}
use Rattle.ipc_batch.specs.declared.parts.BufferPlace.{BufferPlace}
use Rattle.ipc_batch.specs.Parts.{placed_in, buffer_at}
use Rattle.ipc_batch.specs.State.{Dictionaries, values_under}
use Rattle.ipc_batch.specs.Columns.{FrontAt, validity_at, texts_in_buffers, values_in_buffers, texts_front, values_front, front_of, columns_from, buffers_wanted, one_texts}
use Rattle.ipc_batch.specs.Holds.{BatchBody, led_into, HasBuffer, HasBytes, HasValidity, HoldsValues, HoldsLayout, HoldsColumn, own_buffer, HoldsColumns}

-- ---- buffers

-- bytes that stand in the body, as many as the place has
abbrev ArePlaced : List ℕ → BufferPlace → List ℕ → Type 0
ArePlaced body place part = Stands part body place.offset × (length part ≡ place.length)

buffer_told : (body : List ℕ) (place : BufferPlace) (bytes : List ℕ) → buffer_at body place ≡ Ok bytes → HasBuffer body place bytes
unfolding buffer_at
buffer_told body place bytes e =
    let a = bind_ok (placed_in body place) _ bytes e in
    let inside = demand_ok (nat_le (place.offset + place.length) (length body)) BadBatch a.0 a.1 in
    let read : bytes_at body place.offset place.length ≡ Ok bytes = rw inside a.2 in
    let h = ((seen_finds (bytes_at body place.offset place.length) (ArePlaced body place) (seen_bytes body place.offset place.length)).value bytes).0 read in
    record { stands = h.0; long = h.1 }

other_fault : (b : Bool) (x y : List ℕ) → (if b then Ok x else Err BadFlatbuffer) ≡ Ok y → (demand b BadBatch >>= λ _. Ok x) ≡ Ok y
other_fault true x y e = e
other_fault false x y e = absurd (let no : ⊥ = cc in no)

buffer_read : (body : List ℕ) (place : BufferPlace) (bytes : List ℕ) → HasBuffer body place bytes → buffer_at body place ≡ Ok bytes
unfolding buffer_at
buffer_read body place bytes h =
    other_fault (nat_le (place.offset + place.length) (length body)) (take place.length (drop place.offset body)) bytes
    (((seen_finds (bytes_at body place.offset place.length) (ArePlaced body place) (seen_bytes body place.offset place.length)).value bytes).1 (h.stands, h.long))

-- the bytes of a buffer that is there
bytes_read : (body : List ℕ) (place : BufferPlace) (bytes : List ℕ) → HasBytes body (Some place) bytes → buffer_at body place ≡ Ok bytes
bytes_read body place bytes h =
    let is : place ≡ h.0 = let e = h.1 in cc in
    ap (buffer_at body) is ∙ buffer_read body h.0 bytes h.2

validity_told : (body : List ℕ) (node : FieldNode) (place : BufferPlace) (bits : Option (List ℕ)) → validity_at body node place ≡ Ok bits → HasValidity body node place bits
unfolding validity_at
validity_told body node place bits e = by (node.null_count == 0) refl e
  where
    by : (none : Bool) → (node.null_count == 0) ≡ none →
        (if none then (placed_in body place >>= λ _. Ok None) else (buffer_at body place >>= λ bits. Ok (Some bits))) ≡ Ok bits → HasValidity body node place bits
    by true none e =
        let a = bind_ok (placed_in body place) _ bits e in
        let last = a.2 in
        let same : None ≡ bits = cc in
        rw (← same) (eqb-true node.null_count 0 none, leb-true (place.offset + place.length) (length body) (demand_ok (nat_le (place.offset + place.length) (length body)) BadBatch a.0 a.1))
    by false some e =
        let a = bind_ok (buffer_at body place) _ bits e in
        let last = a.2 in
        let same : Some a.0 ≡ bits = cc in
        rw (← same) ((λ (z : node.null_count ≡ 0). let t = eq-eqb node.null_count 0 z in let no : ⊥ = cc in no), buffer_told body place a.0 a.1)

validity_read : (body : List ℕ) (node : FieldNode) (place : BufferPlace) (bits : Option (List ℕ)) → HasValidity body node place bits → validity_at body node place ≡ Ok bits
unfolding validity_at
validity_read body node place None says =
    rw (eq-eqb node.null_count 0 says.0, le-leb (place.offset + place.length) (length body) says.1) refl
validity_read body node place (Some bits) says = by (node.null_count == 0) refl
  where
    by : (none : Bool) → (node.null_count == 0) ≡ none →
        (if none then (placed_in body place >>= λ _. Ok None) else (buffer_at body place >>= λ bits. Ok (Some bits))) ≡ Ok (Some bits)
    by true none = absurd (says.0 (eqb-true node.null_count 0 none))
    by false some = rw (buffer_read body place bits says.1) refl

-- ---- the column at the front

-- what is read, as a source
abbrev pub source_of : ℕ → List ℕ → Dictionaries → BatchBody
source_of rows body dictionaries = record { rows = rows; body = body; dictionaries = values_under dictionaries }

-- a column over the buffers at the front, and those after it
pub record AtFront (source : BatchBody) (t : DataType) (node : FieldNode) (places : List BufferPlace) (front : FrontAt) : Type 0 where
  pub column : HoldsColumn source t node (slice_get places) (whole front.layout)
  pub behind : front.behind ≡ drop (buffer_count t) places

texts_told : (rows : ℕ) (body : List ℕ) (dictionaries : Dictionaries) (node : FieldNode) (places : List BufferPlace) (front : FrontAt) →
    texts_front rows body node places ≡ Ok front → AtFront (source_of rows body dictionaries) Utf8 node places front
unfolding texts_in_buffers
texts_told rows body dictionaries node (validity ∷ offsets ∷ bytes ∷ behind) front e =
    let a = bind_ok (texts_in_buffers rows body node validity offsets bytes) _ front e in
    let b = bind_ok (demand (node.length == rows) BadBatch) _ a.0 a.1 in
    let c = bind_ok (validity_at body node validity) _ a.0 b.2 in
    let d = bind_ok (buffer_at body offsets) _ a.0 c.2 in
    let f = bind_ok (buffer_at body bytes) _ a.0 d.2 in
    let made : FrontAt = record { layout = Texts a.0; behind = behind } in
    let last = a.2 in
    let same : made ≡ front = cc in
    subst (AtFront (source_of rows body dictionaries) Utf8 node (validity ∷ offsets ∷ bytes ∷ behind)) same (record {
      column = record {
        long = eqb-true node.length rows (demand_ok (node.length == rows) BadBatch b.0 b.1);
        validity = validity;
        first = refl;
        bits = c.0;
        valid = validity_told body node validity c.0 c.1;
        layout = Texts a.0;
        behind = (
          a.0,
          refl,
          record {
            offsets = d.0;
            cut = (offsets, refl, buffer_told body offsets d.0 d.1);
            bytes = f.0;
            text = (bytes, refl, buffer_told body bytes f.0 f.1);
            slots = f.2;
          },
        );
        whole_is = refl;
      };
      behind = refl;
    })
texts_told rows body dictionaries node (offsets ∷ bytes ∷ []) front e = absurd (let no : ⊥ = cc in no)
texts_told rows body dictionaries node (bytes ∷ []) front e = absurd (let no : ⊥ = cc in no)
texts_told rows body dictionaries node [] front e = absurd (let no : ⊥ = cc in no)

values_told : (t : DataType) (rows : ℕ) (body : List ℕ) (dictionaries : Dictionaries) (node : FieldNode) (places : List BufferPlace) (front : FrontAt) →
    (HoldsLayout (source_of rows body dictionaries) t ≡ HoldsValues (source_of rows body dictionaries) t) → buffer_count t ≡ 2 →
    values_front t (led_into t (values_under dictionaries)) rows body node places ≡ Ok front → AtFront (source_of rows body dictionaries) t node places front
unfolding values_in_buffers
values_told t rows body dictionaries node (validity ∷ values ∷ behind) front plain two e =
    let dictionary = led_into t (values_under dictionaries) in
    let source = source_of rows body dictionaries in
    let a = bind_ok (values_in_buffers t dictionary rows body node validity values) _ front e in
    let b = bind_ok (demand (node.length == rows) BadBatch) _ a.0 a.1 in
    let c = bind_ok (validity_at body node validity) _ a.0 b.2 in
    let d = bind_ok (buffer_at body values) _ a.0 c.2 in
    let made : FrontAt = record { layout = a.0; behind = behind } in
    let last = a.2 in
    let same : made ≡ front = cc in
    let own = slice_get (validity ∷ values ∷ behind) in
    let held : HoldsValues source t own c.0 a.0 = record { packed = d.0; there = (values, refl, buffer_told body values d.0 d.1); slots = d.2 } in
    subst (AtFront source t node (validity ∷ values ∷ behind)) same (record {
      column = record {
        long = eqb-true node.length rows (demand_ok (node.length == rows) BadBatch b.0 b.1);
        validity = validity;
        first = refl;
        bits = c.0;
        valid = validity_told body node validity c.0 c.1;
        layout = a.0;
        behind = subst (λ (holds : (ℕ → Option BufferPlace) → Option (List ℕ) → Layout → Type 0). holds own c.0 a.0) (sym plain) held;
        whole_is = refl;
      };
      behind = rw two refl;
    })
values_told t rows body dictionaries node (values ∷ []) front plain two e = absurd (let no : ⊥ = cc in no)
values_told t rows body dictionaries node [] front plain two e = absurd (let no : ⊥ = cc in no)

front_told : (t : DataType) (rows : ℕ) (body : List ℕ) (dictionaries : Dictionaries) (node : FieldNode) (places : List BufferPlace) (front : FrontAt) →
    front_of t dictionaries rows body node places ≡ Ok front → AtFront (source_of rows body dictionaries) t node places front
unfolding front_of
front_told Utf8 rows body dictionaries node places front e = texts_told rows body dictionaries node places front e
front_told (Number kind) rows body dictionaries node places front e = values_told (Number kind) rows body dictionaries node places front refl refl e
front_told Flags rows body dictionaries node places front e = values_told Flags rows body dictionaries node places front refl refl e
front_told (Dictionary encoding) rows body dictionaries node places front e = values_told (Dictionary encoding) rows body dictionaries node places front refl refl e

-- what is read of a column's buffers
abbrev front_behind : Layout → ℕ → List BufferPlace → FrontAt
front_behind layout count places = record { layout = layout; behind = drop count places }

texts_read : (rows : ℕ) (body : List ℕ) (dictionaries : Dictionaries) (node : FieldNode) (places : List BufferPlace) (column : ColumnAt) →
    (h : HoldsColumn (source_of rows body dictionaries) Utf8 node (slice_get places) column) → texts_front rows body node places ≡ Ok (front_behind h.layout 3 places)
unfolding texts_in_buffers
texts_read rows body dictionaries node (validity ∷ offsets ∷ bytes ∷ behind) column h =
    let texts = h.behind.2 in
    let is : validity ≡ h.validity = let e = h.first in cc in
    let valid : validity_at body node validity ≡ Ok h.bits = ap (validity_at body node) is ∙ validity_read body node h.validity h.bits h.valid in
    rw (
      eq-eqb node.length rows h.long,
      valid,
      bytes_read body offsets texts.offsets texts.cut,
      bytes_read body bytes texts.bytes texts.text,
      texts.slots,
      h.behind.1,
    ) refl
texts_read rows body dictionaries node (validity ∷ offsets ∷ []) column h = absurd (let e = (h.behind.2).text.1 in let no : ⊥ = cc in no)
texts_read rows body dictionaries node (validity ∷ []) column h = absurd (let e = (h.behind.2).cut.1 in let no : ⊥ = cc in no)
texts_read rows body dictionaries node [] column h = absurd (let e = h.first in let no : ⊥ = cc in no)

values_read : (t : DataType) (rows : ℕ) (body : List ℕ) (dictionaries : Dictionaries) (node : FieldNode) (places : List BufferPlace) (column : ColumnAt) →
    (HoldsLayout (source_of rows body dictionaries) t ≡ HoldsValues (source_of rows body dictionaries) t) →
    (h : HoldsColumn (source_of rows body dictionaries) t node (slice_get places) column) → values_front t (led_into t (values_under dictionaries)) rows body node places ≡ Ok (front_behind h.layout 2 places)
unfolding values_in_buffers
values_read t rows body dictionaries node places column plain h = by places refl
  where
    held : HoldsValues (source_of rows body dictionaries) t (slice_get places) h.bits h.layout
    held = subst (λ (holds : (ℕ → Option BufferPlace) → Option (List ℕ) → Layout → Type 0). holds (slice_get places) h.bits h.layout) plain h.behind

    by : (all : List BufferPlace) → places ≡ all → values_front t (led_into t (values_under dictionaries)) rows body node all ≡ Ok (front_behind h.layout 2 all)
    by (validity ∷ values ∷ behind) is =
        let at : Some validity ≡ Some h.validity = ap (λ (xs : List BufferPlace). slice_get xs 0) (sym is) ∙ h.first in
        let first : validity ≡ h.validity = cc in
        let valid : validity_at body node validity ≡ Ok h.bits = ap (validity_at body node) first ∙ validity_read body node h.validity h.bits h.valid in
        let there = subst (λ (xs : List BufferPlace). HasBytes body (slice_get xs 1) held.packed) is held.there in
        rw (eq-eqb node.length rows h.long, valid, bytes_read body values held.packed there, held.slots) refl
    by (validity ∷ []) is = absurd (let e = ap (λ (xs : List BufferPlace). slice_get xs 1) (sym is) ∙ (held.there).1 in let no : ⊥ = cc in no)
    by [] is = absurd (let e = ap (λ (xs : List BufferPlace). slice_get xs 0) (sym is) ∙ h.first in let no : ⊥ = cc in no)

front_read : (t : DataType) (rows : ℕ) (body : List ℕ) (dictionaries : Dictionaries) (node : FieldNode) (places : List BufferPlace) (column : ColumnAt) →
    (h : HoldsColumn (source_of rows body dictionaries) t node (slice_get places) column) → front_of t dictionaries rows body node places ≡ Ok (front_behind h.layout (buffer_count t) places)
unfolding front_of
front_read Utf8 rows body dictionaries node places column h = texts_read rows body dictionaries node places column h
front_read (Number kind) rows body dictionaries node places column h = values_read (Number kind) rows body dictionaries node places column refl h
front_read Flags rows body dictionaries node places column h = values_read Flags rows body dictionaries node places column refl h
front_read (Dictionary encoding) rows body dictionaries node places column h = values_read (Dictionary encoding) rows body dictionaries node places column refl h

-- ---- all columns

-- the items after n others
get_behind : {A : Type 0} (n : ℕ) (xs : List A) (k : ℕ) → slice_get (drop n xs) k ≡ slice_get xs (n + k)
get_behind zero xs k = let e : k ≡ 0 + k = omega arith in ap (slice_get xs) e
get_behind (suc n) [] k = refl
get_behind (suc n) (x ∷ xs) k = let e : suc (n + k) ≡ suc n + k = omega arith in get_behind n xs k ∙ ap (slice_get (x ∷ xs)) e

-- the first column's buffers are the first ones
own_first : (fields : List Field) (places : List BufferPlace) → own_buffer fields places 0 ≡ slice_get places
own_first fields places = fun_ext (λ k. (let e : 0 + k ≡ k = omega arith in ap (slice_get places) e))

-- the buffers of those after it stand after them
own_next : (field : Field) (fields : List Field) (places : List BufferPlace) (index : ℕ) →
    own_buffer fields (drop (buffer_count field.data_type) places) index ≡ own_buffer (field ∷ fields) places (suc index)
own_next field fields places index = fun_ext (λ k.
    (let counts : buffers_wanted (field ∷ take index fields) ≡ buffer_count field.data_type + buffers_wanted (take index fields) = sum_by-cons (λ (x : Field). buffer_count x.data_type) field (take index fields) in
    let e : buffer_count field.data_type + (buffers_wanted (take index fields) + k) ≡ buffers_wanted (field ∷ take index fields) + k = omega arith in
    get_behind (buffer_count field.data_type) places (buffers_wanted (take index fields) + k) ∙ ap (slice_get places) e))

-- each column is what its node and buffers hold
abbrev AreHeld : BatchBody → List Field → List FieldNode → List BufferPlace → List ColumnAt → Type 0
AreHeld source fields nodes places columns = (index : ℕ) (field : Field) (node : FieldNode) (column : ColumnAt) → slice_get fields index ≡ Some field →
    slice_get nodes index ≡ Some node → slice_get columns index ≡ Some column → HoldsColumn source field.data_type node (own_buffer fields places index) column

held_more : (source : BatchBody) (field : Field) (fields : List Field) (node : FieldNode) (nodes : List FieldNode) (places : List BufferPlace) (column : ColumnAt) (columns : List ColumnAt) →
    HoldsColumn source field.data_type node (slice_get places) column → AreHeld source fields nodes (drop (buffer_count field.data_type) places) columns →
    AreHeld source (field ∷ fields) (node ∷ nodes) places (column ∷ columns)
held_more source field fields node nodes places column columns one rest zero f n c f_is n_is c_is =
    let own = subst (λ (own : ℕ → Option BufferPlace). HoldsColumn source field.data_type node own column) (sym (own_first (field ∷ fields) places)) one in
    let a : field ≡ f = cc in
    let b : node ≡ n = cc in
    let d : column ≡ c = cc in
    rw (← a, ← b, ← d) own
held_more source field fields node nodes places column columns one rest (suc index) f n c f_is n_is c_is =
    subst (λ (own : ℕ → Option BufferPlace). HoldsColumn source f.data_type n own c) (own_next field fields places index) (rest index f n c f_is n_is c_is)

pub columns_told : (fields : List Field) (dictionaries : Dictionaries) (rows : ℕ) (body : List ℕ) (nodes : List FieldNode) (places : List BufferPlace) (columns : List ColumnAt) →
    columns_from fields dictionaries rows body nodes places ≡ Ok columns → HoldsColumns (source_of rows body dictionaries) fields nodes places columns
columns_told [] dictionaries rows body nodes places columns e =
    let same : [] ≡ columns = cc in
    rw (← same) (record { count = refl; each = λ index field node column f_is n_is c_is. absurd (let no : ⊥ = cc in no) })
columns_told (field ∷ fields) dictionaries rows body [] places columns e = absurd (let no : ⊥ = cc in no)
columns_told (field ∷ fields) dictionaries rows body (node ∷ nodes) places columns e =
    let source = source_of rows body dictionaries in
    let a = bind_ok (front_of field.data_type dictionaries rows body node places) _ columns e in
    let b = bind_ok (columns_from fields dictionaries rows body nodes (a.0).behind) _ columns a.2 in
    let last = b.2 in
    let same : whole (a.0).layout ∷ b.0 ≡ columns = cc in
    let front = front_told field.data_type rows body dictionaries node places a.0 a.1 in
    let rest = columns_told fields dictionaries rows body nodes (a.0).behind b.0 b.1 in
    let behind = subst (λ (xs : List BufferPlace). AreHeld source fields nodes xs b.0) front.behind rest.each in
    subst (HoldsColumns source (field ∷ fields) (node ∷ nodes) places) same
    (record { count = ap suc rest.count; each = held_more source field fields node nodes places (whole (a.0).layout) b.0 front.column behind })

pub columns_read : (fields : List Field) (dictionaries : Dictionaries) (rows : ℕ) (body : List ℕ) (nodes : List FieldNode) (places : List BufferPlace) (columns : List ColumnAt) →
    length nodes ≡ length fields → length columns ≡ length fields → AreHeld (source_of rows body dictionaries) fields nodes places columns →
    columns_from fields dictionaries rows body nodes places ≡ Ok columns
columns_read [] dictionaries rows body nodes places [] many count held = refl
columns_read [] dictionaries rows body nodes places (column ∷ columns) many count held = absurd (omega arith)
columns_read (field ∷ fields) dictionaries rows body [] places columns many count held = absurd (omega arith)
columns_read (field ∷ fields) dictionaries rows body (node ∷ nodes) places [] many count held = absurd (omega arith)
columns_read (field ∷ fields) dictionaries rows body (node ∷ nodes) places (column ∷ columns) many count held =
    let source = source_of rows body dictionaries in
    let one = subst (λ (own : ℕ → Option BufferPlace). HoldsColumn source field.data_type node own column) (own_first (field ∷ fields) places) (held 0 field node column refl refl refl) in
    let rest : AreHeld source fields nodes (drop (buffer_count field.data_type) places) columns = λ (index : ℕ) (f : Field) (n : FieldNode) (c : ColumnAt) (f_is : slice_get fields index ≡ Some f) (n_is : slice_get nodes index ≡ Some n) (c_is : slice_get columns index ≡ Some c).
    subst (λ (own : ℕ → Option BufferPlace). HoldsColumn source f.data_type n own c) (sym (own_next field fields places index)) (held (suc index) f n c f_is n_is c_is) in
    rw (
      front_read field.data_type rows body dictionaries node places column one,
      columns_read fields dictionaries rows body nodes (drop (buffer_count field.data_type) places) columns (omega arith) (omega arith) rest,
    ) (ap (λ (c : ColumnAt). Ok (c ∷ columns)) (sym one.whole_is))

-- the one column of texts that a dictionary has
pub record IsOne (source : BatchBody) (nodes : List FieldNode) (places : List BufferPlace) (cells : TextsAt) : Type 0 where
  pub node : FieldNode
  pub noded : nodes ≡ node ∷ []
  pub many : length places ≡ 3
  pub column : HoldsColumn source Utf8 node (slice_get places) (whole (Texts cells))

pub one_told : (rows : ℕ) (body : List ℕ) (dictionaries : Dictionaries) (nodes : List FieldNode) (places : List BufferPlace) (cells : TextsAt) → one_texts rows body nodes places ≡ Ok cells →
    IsOne (source_of rows body dictionaries) nodes places cells
one_told rows body dictionaries [] places cells e = absurd (let no : ⊥ = cc in no)
one_told rows body dictionaries (node ∷ n ∷ nodes) places cells e = absurd (let no : ⊥ = cc in no)
one_told rows body dictionaries (node ∷ []) [] cells e = absurd (let no : ⊥ = cc in no)
one_told rows body dictionaries (node ∷ []) (a ∷ []) cells e = absurd (let no : ⊥ = cc in no)
one_told rows body dictionaries (node ∷ []) (a ∷ b ∷ []) cells e = absurd (let no : ⊥ = cc in no)
one_told rows body dictionaries (node ∷ []) (a ∷ b ∷ c ∷ d ∷ more) cells e = absurd (let no : ⊥ = cc in no)
one_told rows body dictionaries (node ∷ []) (a ∷ b ∷ c ∷ []) cells e =
    let front : FrontAt = record { layout = Texts cells; behind = [] } in
    let read : texts_front rows body node (a ∷ b ∷ c ∷ []) ≡ Ok front = rw e refl in
    record { node = node; noded = refl; many = refl; column = (texts_told rows body dictionaries node (a ∷ b ∷ c ∷ []) front read).column }

pub one_read : (rows : ℕ) (body : List ℕ) (dictionaries : Dictionaries) (nodes : List FieldNode) (places : List BufferPlace) (cells : TextsAt) →
    IsOne (source_of rows body dictionaries) nodes places cells → one_texts rows body nodes places ≡ Ok cells
one_read rows body dictionaries nodes places cells one =
    ap (λ (xs : List FieldNode). one_texts rows body xs places) one.noded ∙ by places one.many one.column
  where
    by : (all : List BufferPlace) → length all ≡ 3 → HoldsColumn (source_of rows body dictionaries) Utf8 one.node (slice_get all) (whole (Texts cells)) → one_texts rows body (one.node ∷ []) all ≡ Ok cells
    by [] many h = absurd (omega arith)
    by (a ∷ []) many h = absurd (omega arith)
    by (a ∷ b ∷ []) many h = absurd (omega arith)
    by (a ∷ b ∷ c ∷ d ∷ more) many h = absurd (omega arith)
    by (a ∷ b ∷ c ∷ []) many h =
        let front : FrontAt = front_behind h.layout 3 (a ∷ b ∷ c ∷ []) in
        let read = bind_ok (texts_in_buffers rows body one.node a b c) _ front (texts_read rows body dictionaries one.node (a ∷ b ∷ c ∷ []) (whole (Texts cells)) h) in
        let made : FrontAt = record { layout = Texts read.0; behind = [] } in
        let same : made ≡ front = let e = read.2 in cc in
        let layout : Texts read.0 ≡ Texts cells = ap (λ (x : FrontAt). x.layout) same ∙ sym (ap (λ (x : ColumnAt). x.layout) h.whole_is) in
        let cells_is : read.0 ≡ cells = cc in
        read.1 ∙ ap Ok cells_is
