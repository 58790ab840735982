-- What holds of all bytes and records.
use Rattle.std.specs.Prelude.{◌≡◌, ◌↔◌, ◌++◌, ℕ, List, [], Some, All, Option, Result, Err}
use Rattle.std.specs.List.{flat_map}
use Rattle.scan_base.specs.declared.fault.Fault.{Fault}
use Rattle.grpc_frame.specs.declared.place.Place.{Place}
use Rattle.grpc_frame.specs.declared.record.Record.{Record}
use Rattle.grpc_frame.specs.Records.{spelling, IsRecord, place_after, place_after_all, Received}
use Rattle.grpc_frame.specs.Records.{with_more, Leads, Breaks, IsCut, Ending, nothing_more, Splits}
use Rattle.grpc_frame.specs.Head.{AreBytes}
use Rattle.grpc_frame.specs.Calls.{TakesFront}
use Rattle.grpc_frame.specs.Front.{Wanting, Faulty, Whole, front_of}

-- the function on bytes and the words of the profile are one
pub record FrontKeepsProfile (left : Received) : Type 0 where
  pub whole : (found : Record) (rest : Received) →
      (front_of left ≡ Whole found rest) ↔ Leads found left rest
  pub faulty : (fault : Fault) → (front_of left ≡ Faulty fault) ↔ Breaks left fault
  pub wanting : (front_of left ≡ Wanting) ↔ IsCut left

abbrev pub FrontsKeepProfile : Type 0
FrontsKeepProfile = (left : Received) → AreBytes left.bytes → FrontKeepsProfile left

-- a record in front stays there whatever comes, and so does a fault
abbrev pub FrontsStay : Type 0
FrontsStay =
    (left : Received) (more : List ℕ)
    → ((found : Record) (rest : Received) → Leads found left rest
    → Leads found (with_more left more) (with_more rest more))
    × ((fault : Fault) → Breaks left fault → Breaks (with_more left more) fault)

-- where a fault stood in front, `next` answers that fault, whatever was fed since
abbrev pub FaultsStay : Type 0
FaultsStay =
    (old new : Received) (more : List ℕ) (fault : Fault) (answer : Result (Option Record) Fault)
    → Breaks old fault → TakesFront answer (with_more old more) new
    → (answer ≡ Err fault) × (new ≡ with_more old more)

-- a record's bytes, followed by anything, read as that record and leave what follows
abbrev pub RecordsReadBack : Type 0
RecordsReadBack =
    (found : Record) (at after : Place) (rest : List ℕ) → IsRecord found
    → place_after at found ≡ Some after
    → front_of (record { bytes = spelling found ++ rest; place = at })
    ≡ Whole found (record { bytes = rest; place = after })

-- bytes split in at most one way
abbrev pub AtMostOneSplit : Type 0
AtMostOneSplit =
    (all : Received) (records others : List Record) (left rest : Received) (ending last : Ending)
    → Splits all records left ending → Splits all others rest last
    → (records ≡ others) × (left ≡ rest) × (ending ≡ last)

-- bytes always split
abbrev pub EachSplits : Type 0
EachSplits =
    (all : Received) → AreBytes all.bytes
    → (records : List Record) × (left : Received) × (ending : Ending)
    × Splits all records left ending

-- records that were read, and then those of what was left with more bytes after it, are the records
-- of all the bytes: how a stream is cut into pieces does not matter
abbrev pub SplitsGoOn : Type 0
SplitsGoOn =
    (all left rest : Received) (records others : List Record) (ending last : Ending) (more : List ℕ)
    → Splits all records left ending → Splits (with_more left more) others rest last
    → Splits (with_more all more) (records ++ others) rest last

-- what is written for records is those records and nothing more
abbrev pub WrittenSplits : Type 0
WrittenSplits =
    (records : List Record) (at after : Place) → All IsRecord records
    → place_after_all at records ≡ Some after
    → Splits (record { bytes = flat_map spelling records; place = at }) records
    (record { bytes = []; place = after }) nothing_more
