-- What stands in front of what has come: a function on whole lists of bytes.
use Rattle.std.specs.Prelude.{◌≡◌, ◌≢◌, ◌≤◌, ℕ, Bool, true, ◌+◌, nat_lt, List, length, take, drop}
use Rattle.std.specs.Prelude.{Option, Some, None, Result, Ok, Err, if◌then◌else◌}
use Rattle.std.specs.Str.{is_utf8}
use Rattle.scan_base.specs.declared.fault.Fault.{Fault}
use Rattle.scan_base.specs.declared.fault.Fault.TheVariants.{BadFrame, OutOfMemory}
use Rattle.grpc_frame.specs.declared.place.Place.{Place}
use Rattle.grpc_frame.specs.declared.place.Place.TheVariants.{BetweenCalls, InsideCall}
use Rattle.grpc_frame.specs.declared.record.Record.{Record}
use Rattle.grpc_frame.specs.declared.record.Record.TheVariants.{Open, Message, End, Status}
use Rattle.grpc_frame.specs.declared.head.Head.{Head}
use Rattle.grpc_frame.specs.declared.head.RecordKind.{RecordKind}
use Rattle.grpc_frame.specs.declared.head.RecordKind.TheVariants as kinds
use Rattle.grpc_frame.specs.Records.{Received}
use Rattle.grpc_frame.specs.Head.{head_of}

-- more has to come, a flaw that this fault answers, or a record and what is left after it
pub data Front : Type 0 where
  Wanting : Front
  Faulty : Fault → Front
  Whole : Record → Received → Front

-- a record of this kind may hold these bytes
abbrev pub is_content : RecordKind → List ℕ → Bool
is_content (kinds.Status code) content = is_utf8 content
is_content _ content = true

-- the record of this kind that holds these bytes
abbrev pub record_of : RecordKind → List ℕ → Record
record_of kinds.Open content = Open content
record_of kinds.Message content = Message content
record_of kinds.End content = End
record_of (kinds.Status code) content = Status code content

-- the place after a record of this kind
abbrev pub place_behind : RecordKind → Place → Place
place_behind kinds.Open place = InsideCall
place_behind kinds.Message place = place
place_behind kinds.End place = BetweenCalls
place_behind (kinds.Status code) place = place

-- by the record's kind, its content and what follows it
abbrev pub record_front : Place → RecordKind → List ℕ → List ℕ → Front
record_front place kind content rest =
    if is_content kind content
    then Whole (record_of kind content) (record { bytes = rest; place = place_behind kind place })
    else Faulty BadFrame

-- the content after a head, and what follows it

abbrev pub content_in : Head → List ℕ → List ℕ
content_in head bytes = drop head.len (take (head.len + head.content_len) bytes)

abbrev pub rest_behind : Head → List ℕ → List ℕ
rest_behind head bytes = drop (head.len + head.content_len) bytes

-- by what the head says
abbrev pub front_by : Received → Result (Option Head) Fault → Front
front_by left (Err fault) = Faulty fault
front_by left (Ok None) = Wanting
front_by left (Ok (Some head)) =
    if nat_lt (length left.bytes) (head.len + head.content_len) then Wanting
    else record_front left.place head.kind (content_in head left.bytes)
    (rest_behind head left.bytes)

unfoldable pub front_of : Received → Front
front_of left = front_by left (head_of left.place left.bytes)

-- What a look at the front finds: the head of a whole record, of which this content and this rest
-- are parts; else why there is none.
abbrev pub FindsFront : Result (Option Head) Fault → Received → Type 0
FindsFront (Err fault) left = (fault ≢ OutOfMemory) × (front_of left ≡ Faulty fault)
FindsFront (Ok None) left = front_of left ≡ Wanting
FindsFront (Ok (Some head)) left =
    (head.len + head.content_len ≤ length left.bytes)
    × (is_content head.kind (content_in head left.bytes) ≡ true)
    × (front_of left ≡ Whole (record_of head.kind (content_in head left.bytes))
    (record { bytes = rest_behind head left.bytes; place = place_behind head.kind left.place }))
