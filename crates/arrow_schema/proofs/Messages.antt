-- A message that was written is read again.
use Rattle.std.proofs.Common.{◌≡◌, ℕ, ◌+◌, ◌≤◌, ◌<◌, ◌^◌, List, [], ◌∷◌, length, Ok, refl, arith, ap, append-nil}
use Rattle.flatbuf.specs.Place.{scalar_of}
use Rattle.flatbuf.specs.Block.{Part, Given, Number, Offset, AreWhole, table_part, buffer_of}
use Rattle.flatbuf.specs.WrittenTables.{table_at, LeadsToBlock}
use Rattle.flatbuf.specs.Fits.{FitsTable}
use Rattle.flatbuf.proofs.Written.{table_reads, table_aligned}
use Rattle.flatbuf.proofs.Lengths.{whole_table, short_table, fits_table}
use Rattle.flatbuf.proofs.Led.{led_table, buffer_reads}
use Rattle.arrow_schema.specs.declared.header.HeaderKind.{HeaderKind}
use Rattle.arrow_schema.specs.declared.header.HeaderKind.TheVariants.{Schema, DictionaryBatch, RecordBatch}
use Rattle.arrow_schema.specs.Header.{header_kind, message_of, table_wanted}
use Rattle.arrow_schema.specs.Message.{kind_number, message_part, MessagesReadBack}

low_kind : (kind : HeaderKind) → kind_number kind < 256
low_kind Schema = omega arith
low_kind DictionaryBatch = omega arith
low_kind RecordBatch = omega arith

kind_again : (kind : HeaderKind) → header_kind (kind_number kind) ≡ Ok kind
kind_again Schema = refl
kind_again DictionaryBatch = refl
kind_again RecordBatch = refl

abbrev message_slots : HeaderKind → Part → ℕ → List Given
message_slots kind header body = Number 4 ∷ Number (kind_number kind) ∷ Offset header ∷ Number body ∷ []

-- a message takes little next to its header
pub short_message : (kind : HeaderKind) (header : Part) (body : ℕ) → length (message_part kind header body).bytes ≤ 60 + length header.bytes
unfolding message_part
short_message kind header body =
    let s = short_table (message_slots kind header body) in
    let p = ap length (append-nil header.bytes) in
    omega arith

pub fits_message : (kind : HeaderKind) (header : Part) (body : ℕ) → length header.bytes < 2 ^ 30 → FitsTable (message_slots kind header body)
fits_message kind header body short =
    let p = ap length (append-nil header.bytes) in
    fits_table (message_slots kind header body) (omega arith) (omega arith)

pub messages_read : MessagesReadBack
unfolding message_part message_of table_wanted
messages_read kind header body is short low =
    let slots = message_slots kind header body in
    let part = table_part slots in
    let bytes = buffer_of part in
    let whole : AreWhole slots = (is, tt) in
    let fits = fits_message kind header body short in
    let long = short_message kind header body in
    let b = buffer_reads part (whole_table slots whole) (omega arith) in
    let t = table_at bytes 8 part in
    let reads = table_reads slots bytes 8 fits whole b.1 in
    let version : scalar_of 2 t 0 0 ≡ Ok 4 = reads 0 2 0 (omega arith) (omega arith) in
    let number = low_kind kind in
    let k : scalar_of 1 t 1 0 ≡ Ok (kind_number kind) = reads 1 1 0 (omega arith) (omega arith) in
    let led : LeadsToBlock t 2 header = reads 2 in
    let n : scalar_of 8 t 3 0 ≡ Ok body = reads 3 8 0 (omega arith) (omega arith) in
    let even = table_aligned slots bytes 8 fits whole b.1 refl in
    record {
      message = record { kind = kind; table = t };
      place = led.place;
      found = rw (b.0, version, k, kind_again kind) refl;
      kind_again = refl;
      header_again = rw (led_table t 2 header led) refl;
      stands = led.stands;
      aligned = led.aligned even.0;
      body_length_again = n;
    }

-- what writing a message owes the builder
pub ruleset messages = (fits_message, short_message)
