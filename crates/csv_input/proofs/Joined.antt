-- Messages and rows, one after another.
use Rattle.std.proofs.Common.{◌≡◌, ◌<◌, ◌-◌, ℕ, suc, List, [], ◌∷◌, ◌++◌, All, None, Some, length, map, get_or, refl, sym, subst, ◌∙◌, arith, inl, inr, append-nil}
use Rattle.std.proofs.lemmas.Bool.{cases_lt}
use Rattle.std.proofs.lemmas.List.{get_or_append_left, get_or-append_right, length-append, map-append}
use Rattle.std.proofs.lemmas.Option.{none-some}
use Rattle.scan_base.specs.declared.value.Value.{Value}
use Rattle.arrow_types.specs.declared.data_type.DataType.{DataType}
use Rattle.arrow_types.specs.declared.data_type.DataType.TheVariants as type
use Rattle.arrow_types.specs.declared.schema.Field.{Field}
use Rattle.arrow_types.specs.declared.schema.Schema.{Schema}
use Rattle.arrow_types.specs.DataType.{encoding_of}
use Rattle.arrays.specs.declared.layout.Layout.{Layout}
use Rattle.arrays.specs.Batch.{BatchAt, rows_of}
use Rattle.arrays.specs.Column.{ColumnAt}
use Rattle.arrays.specs.TypedLayouts.{AreOfTypes}
use Rattle.array_buffers.specs.ColumnBuffers.{IsLedBy}
use Rattle.ipc_batch.specs.Columns.{values_led_to}
use Rattle.ipc_batch.specs.State.{Dictionaries}
use Rattle.ipc_batch.specs.SaidRows.{Sent, News, Rows, Follows, Says}
use Rattle.ipc_batch.specs.WrittenMessages.{AreLedBy, SaysBatch}
use Rattle.ipc_batch.proofs.Messages.{joined}
use Rattle.ipc_stream.specs.declared.message.IpcMessage.{IpcMessage}
use Rattle.csv_input.specs.Rows.{AreRows, IsRow, sent_in}

-- no field has a dictionary
abbrev pub ArePlain : List Field → Type 0
ArePlain fields = All (λ (field : Field). encoding_of field.data_type ≡ None) fields

led_one : (data_type : DataType) (values : List Value) (layout : Layout) (column : ColumnAt) → encoding_of data_type ≡ None → IsLedBy data_type values layout column
led_one (type.Number kind) values layout column plain = tt
led_one type.Utf8 values layout column plain = tt
led_one type.Bool values layout column plain = tt
led_one (type.Dictionary encoding) values layout column plain = absurd (none-some encoding (sym plain))

led : (fields : List Field) (dictionaries : Dictionaries) (columns : List ColumnAt) → ArePlain fields → AreOfTypes fields columns → AreLedBy fields dictionaries columns
led [] dictionaries columns plain typed = tt
led (field ∷ fields) dictionaries [] plain typed = tt
led (field ∷ fields) dictionaries (column ∷ columns) plain typed = (
  led_one field.data_type (values_led_to field.data_type dictionaries) column.layout column (plain 0 field (omega arith)),
  led fields dictionaries columns (λ k d low. plain (suc k) d (omega (arith, low))) typed.1,
)

-- the message of one batch more says its rows after the others
pub more_said : (messages : List IpcMessage) (message : IpcMessage) (schema : Schema) (rows : Rows) (batch : BatchAt) → SaysBatch (sent_in message) batch → ArePlain schema.fields →
    AreOfTypes schema.fields batch.columns → Says (map sent_in messages) schema rows → Says (map sent_in (messages ++ message ∷ [])) schema (rows ++ rows_of batch)
more_said messages message schema rows batch tells plain typed said =
    let sent = map sent_in messages in
    let known = said.0 in
    let types : AreOfTypes known.schema.fields batch.columns = subst (λ (s : Schema). AreOfTypes s.fields batch.columns) (sym said.1) typed in
    let plainly : ArePlain known.schema.fields = subst (λ (s : Schema). ArePlain s.fields) (sym said.1) plain in
    let read = tells known types (led known.schema.fields known.dictionaries batch.columns plainly types) in
    let news : News = record { state = Some known; batch = Some read.0 } in
    let one : Follows (Some known) (sent_in message ∷ []) (Some known) (rows_of read.0) = (news, [], read.1, sym (append-nil (rows_of read.0)), (refl, refl)) in
    let all : Follows None (sent ++ sent_in message ∷ []) (Some known) (rows ++ rows_of read.0) = joined None sent (sent_in message ∷ []) (Some known) (Some known) rows (rows_of read.0) said.2 one in
    subst (λ (l : List Sent). Says l schema (rows ++ rows_of batch)) (sym (map-append sent_in messages (message ∷ [])))
    (known, said.1, subst (λ (more : Rows). Follows None (sent ++ sent_in message ∷ []) (Some known) (rows ++ more)) read.2 all)

-- records after others say their rows after the others'
pub rows_joined : (columns : List Field) (done held : List (List (List ℕ))) (rows more : Rows) → AreRows columns done rows → AreRows columns held more → AreRows columns (done ++ held) (rows ++ more)
rows_joined columns done held rows more first second = record {
  count = length-append rows more ∙ omega (arith, first.count, second.count, length-append done held);
  each = λ k low. elim (cases_lt k (length done)) [
    | inl before ↦
        subst (λ (r : List (List ℕ)). IsRow columns r (get_or (rows ++ more) k [])) (sym (get_or_append_left done held [] k before))
        (subst (IsRow columns (get_or done k [])) (sym (get_or_append_left rows more [] k (omega (arith, before, first.count)))) (first.each k before))
    | inr later ↦
        let inside : k - length done < length held = omega (arith, low, later, length-append done held) in
        subst (λ (r : List (List ℕ)). IsRow columns r (get_or (rows ++ more) k [])) (sym (get_or-append_right done held (length done) k [] refl later))
        (subst (IsRow columns (get_or held (k - length done) [])) (sym (get_or-append_right rows more (length done) k [] first.count later)) (second.each (k - length done) inside))
  ];
}

-- none say none
pub no_rows : (columns : List Field) → AreRows columns [] []
no_rows columns = record { count = refl; each = λ k low. absurd (omega (arith, low)) }
