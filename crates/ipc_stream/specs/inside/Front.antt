-- What stands in front of the rest of a stream.
use Rattle.std.specs.Prelude.{◌≡◌, ◌<◌, ◌≤◌, ◌+◌, ◌^◌, ℕ, List, ◌++◌, length, drop, slice_range}
use Rattle.std.specs.Prelude.{Option, Some, None, Result, Ok, Err}
use Rattle.scan_base.specs.declared.fault.Fault.{Fault}
use Rattle.scan_base.specs.declared.fault.Fault.TheVariants.{BadFlatbuffer}
use Rattle.ipc_stream.specs.declared.message.IpcMessage.{IpcMessage}
use Rattle.ipc_stream.specs.declared.frame.Frame.{Frame}
use Rattle.ipc_stream.specs.Stream.{announced, frame, ClaimsBody, IsMessage, IsEnd}

-- no length of 31 bits is announced, and the stream does not end
pub record HasNoLength (bytes : List ℕ) : Type 0 where
  pub no_end : ¬ IsEnd bytes
  pub no_length : (len : ℕ) (rest : List ℕ) → len < 2 ^ 31 → ¬ (bytes ≡ announced len rest)

-- a length of 31 bits is announced, which is not 0
pub record HasLength (bytes : List ℕ) (len : ℕ) : Type 0 where
  pub some : 0 < len
  pub fits : len < 2 ^ 31
  pub long : 8 ≤ length bytes
  pub whole : bytes ≡ announced len (drop 8 bytes)

-- the length of the header in front
abbrev pub FindsLength : List ℕ → Result (Option ℕ) Fault → Type 0
FindsLength bytes (Ok None) = IsEnd bytes
FindsLength bytes (Ok (Some len)) = HasLength bytes len
FindsLength bytes (Err fault) = (fault ≡ BadFlatbuffer) × HasNoLength bytes

-- how many bytes of body a header claims
abbrev pub FindsBody : List ℕ → Result ℕ Fault → Type 0
FindsBody header (Ok size) = ClaimsBody header size
FindsBody header (Err fault) = (fault ≡ BadFlatbuffer) × ((size : ℕ) → ¬ ClaimsBody header size)

-- neither a message stands in front, nor an end
pub record IsStuck (bytes : List ℕ) : Type 0 where
  pub no_end : ¬ IsEnd bytes
  pub no_message : (message : IpcMessage) (rest : List ℕ) → IsMessage message →
      ¬ (bytes ≡ frame message ++ rest)

-- a frame from a place on lies within the stream
pub record IsIn (stream : List ℕ) (at : ℕ) (found : Frame) : Type 0 where
  pub starts : 8 ≤ found.header_end
  pub ordered : found.header_end ≤ found.end
  pub within : at + found.end ≤ length stream

-- the message whose frame lies in the stream from a place on
abbrev pub message_at : List ℕ → ℕ → Frame → IpcMessage
message_at stream at found = record {
  header = slice_range stream (at + 8) (at + found.header_end);
  body = slice_range stream (at + found.header_end) (at + found.end);
}

-- a message stands in front, whose parts lie there
pub record IsFound (bytes : List ℕ) (found : Frame) : Type 0 where
  pub within : IsIn bytes 0 found
  pub fits : IsMessage (message_at bytes 0 found)
  pub whole : bytes ≡ frame (message_at bytes 0 found) ++ drop found.end bytes

-- what stands in front
abbrev pub FindsFrame : List ℕ → Result (Option Frame) Fault → Type 0
FindsFrame bytes (Ok None) = IsEnd bytes
FindsFrame bytes (Ok (Some found)) = IsFound bytes found
FindsFrame bytes (Err fault) = (fault ≡ BadFlatbuffer) × IsStuck bytes
