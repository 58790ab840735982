-- What an Arrow IPC stream is. No order of reading is in it.
use Rattle.std.specs.Prelude.{◌≡◌, ◌⊎◌, ◌<◌, ◌^◌, ℕ, List, [], ◌∷◌, ◌++◌, length, Ok, All}
use Rattle.std.specs.Int.{w32, to_le_bytes}
use Rattle.std.specs.List.{flat_map}
use Rattle.scan_base.specs.declared.fault.Fault.{Fault}
use Rattle.scan_base.specs.declared.fault.Fault.TheVariants.{BadFlatbuffer, OutOfMemory}
use Rattle.flatbuf.specs.Layout.{Stands}
use Rattle.flatbuf.specs.Place.{root_of}
use Rattle.arrow_schema.specs.Header.{MessageAt, body_length_of}
use Rattle.ipc_stream.specs.declared.message.IpcMessage.{IpcMessage}

-- A length is announced: four bytes of 255, and the length in four bytes, the lowest first. These
-- bytes follow.
abbrev pub announced : ℕ → List ℕ → List ℕ
announced len rest = 255 ∷ 255 ∷ 255 ∷ 255 ∷ (to_le_bytes w32 len ++ rest)

-- the end marker announces a length of 0
abbrev pub end_marker : List ℕ
end_marker = announced 0 []

-- a message in a stream: the length of its header is announced, and its header and its body follow
abbrev pub frame : IpcMessage → List ℕ
frame message = announced (length message.header) (message.header ++ message.body)

-- A header claims a body of so many bytes, whatever its version and its kind. The number is a
-- signed one of 64 bits, and not negative.
pub record ClaimsBody (header : List ℕ) (size : ℕ) : Type 0 where
  pub message : MessageAt
  pub root : root_of header ≡ Ok message.table
  pub claimed : body_length_of message ≡ Ok size
  pub fits : size < 2 ^ 63

-- A message that may stand in a stream: its header claims just its body. The length of a header is
-- a signed number of 32 bits, and not negative.
pub record IsMessage (message : IpcMessage) : Type 0 where
  pub claims : ClaimsBody message.header (length message.body)
  pub fits : length message.header < 2 ^ 31

-- nothing is left, or the end marker, after which anything may stand
abbrev pub IsEnd : List ℕ → Type 0
IsEnd rest = (rest ≡ []) ⊎ ((after : List ℕ) × (rest ≡ end_marker ++ after))

-- a stream is these messages, one after the other, and then this rest, which ends it
pub record Framed (stream : List ℕ) (messages : List IpcMessage) (rest : List ℕ) : Type 0 where
  pub whole : stream ≡ flat_map frame messages ++ rest
  pub each : All IsMessage messages
  pub ends : IsEnd rest

-- the bytes are a stream of some messages
pub record IsStream (stream : List ℕ) : Type 0 where
  pub messages : List IpcMessage
  pub rest : List ℕ
  pub framed : Framed stream messages rest

-- a message's header stands in the stream, with its body right after it
pub record IsCut (stream : List ℕ) (message : IpcMessage) : Type 0 where
  pub place : ℕ
  pub stands : Stands (message.header ++ message.body) stream place

-- the faults that answer bytes: BadFlatbuffer just where they are no stream, and want of memory
-- only where they are one
abbrev pub Refuses : List ℕ → Fault → Type 0
Refuses stream BadFlatbuffer = ¬ IsStream stream
Refuses stream OutOfMemory = IsStream stream
Refuses stream _ = ⊥
