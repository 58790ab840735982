-- How a message is laid out where it is written, and what is read of it.
use Rattle.std.specs.Prelude.{◌≡◌, ℕ, ◌%◌, ◌^◌, ◌<◌, List, [], ◌∷◌, length, Ok}
use Rattle.flatbuf.specs.Layout.{Stands}
use Rattle.flatbuf.specs.Block.{Part, IsWhole, Number, Offset, table_part, buffer_of}
use Rattle.flatbuf.specs.WrittenTables.{table_at}
use Rattle.arrow_schema.specs.declared.header.HeaderKind.{HeaderKind}
use Rattle.arrow_schema.specs.declared.header.HeaderKind.TheVariants.{Schema, DictionaryBatch}
use Rattle.arrow_schema.specs.declared.header.HeaderKind.TheVariants.{RecordBatch}
use Rattle.arrow_schema.specs.Header.{MessageAt, message_of, header_of, body_length_of}

-- the number that stands for a kind of header
abbrev pub kind_number : HeaderKind → ℕ
kind_number Schema = 1
kind_number DictionaryBatch = 2
kind_number RecordBatch = 3

-- a message's table: the metadata version V5, the header's kind, the header, and how long the body
-- is
unfoldable pub message_part : HeaderKind → Part → ℕ → Part
message_part kind header body_length =
    table_part (Number 4 ∷ Number (kind_number kind) ∷ Offset header ∷ Number body_length ∷ [])

-- the buffer of a message
abbrev pub message_bytes : HeaderKind → Part → ℕ → List ℕ
message_bytes kind header body_length = buffer_of (message_part kind header body_length)

-- A message is read from these bytes: its kind, its header's table, whose bytes stand at a multiple
-- of 8, and how long its body is.
pub record MessageReads (bytes : List ℕ) (kind : HeaderKind) (header : Part)
    (body_length : ℕ) : Type 0 where
  pub message : MessageAt
  pub place : ℕ
  pub found : message_of bytes ≡ Ok message
  pub kind_again : message.kind ≡ kind
  pub header_again : header_of message ≡ Ok (table_at bytes place header)
  pub stands : Stands header.bytes bytes place
  pub aligned : place % 8 ≡ 0
  pub body_length_again : body_length_of message ≡ Ok body_length

-- what is read of a message that was written is what was written
abbrev pub MessagesReadBack : Type 0
MessagesReadBack = (kind : HeaderKind) (header : Part) (body_length : ℕ) → IsWhole header →
    length header.bytes < 2 ^ 30 → body_length < 2 ^ 64 →
    MessageReads (message_bytes kind header body_length) kind header body_length
