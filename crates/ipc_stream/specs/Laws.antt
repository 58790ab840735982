-- What holds of all streams.
use Rattle.std.specs.Prelude.{◌≡◌, ◌↔◌, ◌<◌, ◌^◌, ℕ, List, ◌++◌}
use Rattle.flatbuf.specs.Layout.{IsBytes, TableAt, HasRoot, HasScalar}
use Rattle.flatbuf.specs.Block.{padded}
use Rattle.arrow_schema.specs.WrittenHeader.{encapsulated}
use Rattle.ipc_stream.specs.declared.message.IpcMessage.{IpcMessage}
use Rattle.ipc_stream.specs.Stream.{frame, ClaimsBody, Framed}

-- a stream has at most one list of messages, and one rest
abbrev pub AtMostOneList : Type 0
AtMostOneList =
    (stream : List ℕ) (messages others : List IpcMessage) (rest left : List ℕ)
    → Framed stream messages rest → Framed stream others left
    → (messages ≡ others) × (rest ≡ left)

-- In the words of the FlatBuffers format: slot 3 of the buffer's root table has this number, in
-- eight bytes, or it is absent and the number 0. It is not negative.
pub record SaysBody (header : List ℕ) (size : ℕ) : Type 0 where
  pub table : TableAt
  pub root : HasRoot header table
  pub number : HasScalar 8 table 3 0 size
  pub fits : size < 2 ^ 63

-- a header claims just the body that it says in those words
abbrev pub ClaimsAreSaid : Type 0
ClaimsAreSaid =
    (header : List ℕ) (size : ℕ) → IsBytes header → ClaimsBody header size ↔ SaysBody header size

-- a header in IPC form with a body after it is the frame of a message, whose header has its zeros
abbrev pub FramesAreEncapsulated : Type 0
FramesAreEncapsulated = (header body : List ℕ)
    → encapsulated header ++ body ≡ frame (record { header = padded header; body = body })
