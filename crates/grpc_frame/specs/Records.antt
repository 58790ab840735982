-- What the records of a connection are on the wire. No code and no order of reading is in it.
use Rattle.std.specs.Prelude.{◌≡◌, ◌≢◌, ℕ, ◌≤◌, ◌<◌, ◌^◌, ◌⊎◌, List, [], ◌∷◌, ◌++◌, length, Option}
use Rattle.std.specs.Prelude.{Some, None, All, IsUtf8}
use Rattle.std.specs.Int.{w16, w32, to_be_bytes}
use Rattle.std.specs.List.{flat_map}
use Rattle.std.specs.Option.{option_and_then}
use Rattle.scan_base.specs.Limits.{most_path_bytes, most_message_bytes}
use Rattle.scan_base.specs.declared.fault.Fault.{Fault}
use Rattle.scan_base.specs.declared.fault.Fault.TheVariants.{BadFrame, MessageTooLarge}
use Rattle.grpc_frame.specs.declared.place.Place.{Place}
use Rattle.grpc_frame.specs.declared.place.Place.TheVariants.{BetweenCalls, InsideCall, InAnswer}
use Rattle.grpc_frame.specs.declared.record.Record.{Record}
use Rattle.grpc_frame.specs.declared.record.Record.TheVariants.{Open, Message, End, Status}

-- what stands before the content of a Message of so many bytes
abbrev pub message_head : ℕ → List ℕ
message_head len = 2 ∷ 0 ∷ to_be_bytes w32 len

-- what stands before the text of a Status of this code and so many bytes
abbrev pub status_head : ℕ → ℕ → List ℕ
status_head code len = 4 ∷ code ∷ to_be_bytes w16 len

-- the bytes of a record: a kind byte, and then its parts, with lengths big-endian. A Message has a
-- gRPC length-prefixed message after the kind byte.
abbrev pub spelling : Record → List ℕ
spelling (Open path) = 1 ∷ (to_be_bytes w16 (length path) ++ path)
spelling (Message message) = message_head (length message) ++ message
spelling End = 3 ∷ []
spelling (Status code text) = status_head code (length text) ++ text

-- a record that may be sent
abbrev pub IsRecord : Record → Type 0
IsRecord (Open path) = length path ≤ most_path_bytes
IsRecord (Message message) = length message ≤ most_message_bytes
IsRecord End = Unit {0}
IsRecord (Status code text) = (code < 256) × (length text < 2 ^ 16) × IsUtf8 text

-- the place after a record, where the record may stand at this one
abbrev pub place_after : Place → Record → Option Place
place_after BetweenCalls (Open path) = Some InsideCall
place_after InsideCall (Message message) = Some InsideCall
place_after InsideCall End = Some BetweenCalls
place_after InAnswer (Message message) = Some InAnswer
place_after InAnswer (Status code text) = Some InAnswer
place_after _ _ = None

-- the place after some records
abbrev pub place_after_all : Place → List Record → Option Place
place_after_all place [] = Some place
place_after_all place (first ∷ records) =
    option_and_then (λ next. place_after_all next records) (place_after place first)

-- what has come and is not taken yet, and the place of the record in front
pub record Received : Type 0 where
  pub bytes : List ℕ
  pub place : Place

-- what came, with more bytes after it
abbrev pub with_more : Received → List ℕ → Received
with_more left more = record { bytes = left.bytes ++ more; place = left.place }

-- the record stands in front, and the rest follows it
pub record Leads (found : Record) (old new : Received) : Type 0 where
  pub whole : old.bytes ≡ spelling found ++ new.bytes
  pub fits : IsRecord found
  pub moves : place_after old.place found ≡ Some new.place

-- ---- what may be wrong in front

-- a kind byte that may come at this place
abbrev pub IsKindAt : Place → ℕ → Type 0
IsKindAt BetweenCalls kind = kind ≡ 1
IsKindAt InsideCall kind = (kind ≡ 2) ⊎ (kind ≡ 3)
IsKindAt InAnswer kind = (kind ≡ 2) ⊎ (kind ≡ 4)

-- what may be wrong: a kind byte out of its place, a length above its limit, a flag that is not 0,
-- a text that is no UTF-8
pub data Flaw : Type 0 where
  wrong_kind : (kind : ℕ) → Flaw
  long_path : (len : ℕ) → Flaw
  wrong_flag : (flag : ℕ) → Flaw
  long_message : (len : ℕ) → Flaw
  bad_text : (code : ℕ) (text : List ℕ) → Flaw

-- it is a flaw at this place
abbrev pub IsFlaw : Place → Flaw → Type 0
IsFlaw place (wrong_kind kind) = ¬ IsKindAt place kind
IsFlaw place (long_path len) = IsKindAt place 1 × (most_path_bytes < len) × (len < 2 ^ 16)
IsFlaw place (wrong_flag flag) = IsKindAt place 2 × (flag ≢ 0)
IsFlaw place (long_message len) = IsKindAt place 2 × (most_message_bytes < len) × (len < 2 ^ 32)
IsFlaw place (bad_text code text) = IsKindAt place 4 × (length text < 2 ^ 16) × (¬ IsUtf8 text)

-- the bytes that show it: no more have to come
abbrev pub shown_by : Flaw → List ℕ
shown_by (wrong_kind kind) = kind ∷ []
shown_by (long_path len) = 1 ∷ to_be_bytes w16 len
shown_by (wrong_flag flag) = 2 ∷ flag ∷ []
shown_by (long_message len) = 2 ∷ 0 ∷ to_be_bytes w32 len
shown_by (bad_text code text) = 4 ∷ code ∷ (to_be_bytes w16 (length text) ++ text)

-- the fault that answers it
abbrev pub fault_of : Flaw → Fault
fault_of (long_message len) = MessageTooLarge
fault_of _ = BadFrame

-- a flaw stands in front, and this fault answers it
pub record Breaks (left : Received) (fault : Fault) : Type 0 where
  pub flaw : Flaw
  pub rest : List ℕ
  pub whole : left.bytes ≡ shown_by flaw ++ rest
  pub is_flaw : IsFlaw left.place flaw
  pub fault_is : fault ≡ fault_of flaw

-- more has to come: no record stands in front, and no flaw
pub record IsCut (left : Received) : Type 0 where
  pub no_record : (found : Record) (rest : Received) → ¬ Leads found left rest
  pub no_flaw : (fault : Fault) → ¬ Breaks left fault

-- ---- whole streams

-- how a stream ends after its records
pub data Ending : Type 0 where
  nothing_more : Ending
  cut : Ending
  broken : Fault → Ending

-- what is left ends the stream so
abbrev pub Ends : Received → Ending → Type 0
Ends left nothing_more = left.bytes ≡ []
Ends left cut = (left.bytes ≢ []) × IsCut left
Ends left (broken fault) = Breaks left fault

-- what came is these records, each at its place, and what is left after them ends so
pub record Splits (all : Received) (records : List Record) (left : Received)
    (ending : Ending) : Type 0 where
  pub whole : all.bytes ≡ flat_map spelling records ++ left.bytes
  pub each : All IsRecord records
  pub places : place_after_all all.place records ≡ Some left.place
  pub ends : Ends left ending
