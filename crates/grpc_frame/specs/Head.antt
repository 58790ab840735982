-- What the head of a record says, by the first bytes alone.
use Rattle.std.specs.Prelude.{ℕ, ◌<◌, ◌≤◌, ◌==◌, nat_lt, List, length, take, drop, slice_index}
use Rattle.std.specs.Prelude.{Option, Some, None, Result, Ok, Err, if◌then◌else◌}
use Rattle.std.specs.Int.{w16, w32, from_be_bytes}
use Rattle.scan_base.specs.Limits.{most_path_bytes, most_message_bytes}
use Rattle.scan_base.specs.declared.fault.Fault.{Fault}
use Rattle.scan_base.specs.declared.fault.Fault.TheVariants.{BadFrame, MessageTooLarge}
use Rattle.grpc_frame.specs.declared.place.Place.{Place}
use Rattle.grpc_frame.specs.declared.place.Place.TheVariants.{BetweenCalls, InsideCall, InAnswer}
use Rattle.grpc_frame.specs.declared.head.Head.{Head}
use Rattle.grpc_frame.specs.declared.head.RecordKind.TheVariants as kinds

-- each number is a byte
abbrev pub AreBytes : List ℕ → Type 0
AreBytes bytes = (i : ℕ) → slice_index bytes i < 256

-- the length in two or four bytes from a place on

abbrev pub len16_at : ℕ → List ℕ → ℕ
len16_at at bytes = from_be_bytes w16 (take 2 (drop at bytes))

abbrev pub len32_at : ℕ → List ℕ → ℕ
len32_at at bytes = from_be_bytes w32 (take 4 (drop at bytes))

-- a head is short, and so is what follows it
abbrev pub HasBounds : Head → Type 0
HasBounds head = (head.len ≤ 6) × (head.content_len ≤ most_message_bytes)

-- each kind's head, or None where more of it has to come

abbrev pub open_head : List ℕ → Result (Option Head) Fault
open_head bytes =
    if nat_lt (length bytes) 3 then Ok None
    else (if nat_lt most_path_bytes (len16_at 1 bytes) then Err BadFrame
    else Ok (Some (record { kind = kinds.Open; len = 3; content_len = len16_at 1 bytes })))

abbrev pub message_head_in : List ℕ → Result (Option Head) Fault
message_head_in bytes =
    if nat_lt (length bytes) 2 then Ok None
    else (if slice_index bytes 1 == 0 then
    (if nat_lt (length bytes) 6 then Ok None
    else (if nat_lt most_message_bytes (len32_at 2 bytes) then Err MessageTooLarge
    else Ok (Some (record { kind = kinds.Message; len = 6; content_len = len32_at 2 bytes }))))
    else Err BadFrame)

abbrev pub end_head : Result (Option Head) Fault
end_head = Ok (Some (record { kind = kinds.End; len = 1; content_len = 0 }))

abbrev pub status_head_in : List ℕ → Result (Option Head) Fault
status_head_in bytes =
    if nat_lt (length bytes) 4 then Ok None
    else Ok (Some
    (record { kind = kinds.Status (slice_index bytes 1); len = 4; content_len = len16_at 2 bytes }))

-- by the kind byte
abbrev pub head_by : Place → ℕ → List ℕ → Result (Option Head) Fault
head_by BetweenCalls kind bytes = if kind == 1 then open_head bytes else Err BadFrame
head_by InsideCall kind bytes =
    if kind == 2 then message_head_in bytes else (if kind == 3 then end_head else Err BadFrame)
head_by InAnswer kind bytes =
    if kind == 2 then message_head_in bytes
    else (if kind == 4 then status_head_in bytes else Err BadFrame)

-- the head of the record in front
unfoldable pub head_of : Place → List ℕ → Result (Option Head) Fault
head_of place bytes =
    if length bytes == 0 then Ok None else head_by place (slice_index bytes 0) bytes
