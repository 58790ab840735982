-- What the calls of an inbox and of the writers give.
use Rattle.std.specs.Prelude.{◌≡◌, ◌≢◌, [], Option, Some, None, Result, Ok, Err}
use Rattle.scan_base.specs.declared.fault.Fault.{Fault}
use Rattle.scan_base.specs.declared.fault.Fault.TheVariants.{OutOfMemory}
use Rattle.scan_base.specs.Fault.{grpc_number, code_of, fault_text}
use Rattle.grpc_frame.specs.declared.record.Record.{Record}
use Rattle.grpc_frame.specs.declared.record.Record.TheVariants.{Status}
use Rattle.grpc_frame.specs.Records.{Received, Leads, Breaks, IsCut}
use Rattle.grpc_frame.specs.Front.{Wanting, Faulty, Whole, front_of}

-- ---- the next record, by what had come before and after the call

-- by the function: the record in front is taken; else nothing changes. Want of memory is answered
-- only where a record stands in front.
abbrev pub TakesFront : Result (Option Record) Fault → Received → Received → Type 0
TakesFront (Ok (Some found)) old new = front_of old ≡ Whole found new
TakesFront (Ok None) old new = (front_of old ≡ Wanting) × (new ≡ old)
TakesFront (Err fault) old new =
    (fault ≢ OutOfMemory → front_of old ≡ Faulty fault)
    × (fault ≡ OutOfMemory →
    (found : Record) × (rest : Received) × (front_of old ≡ Whole found rest))
    × (new ≡ old)

-- the same in the words of the profile
abbrev pub KeepsProfile : Result (Option Record) Fault → Received → Received → Type 0
KeepsProfile (Ok (Some found)) old new = Leads found old new
KeepsProfile (Ok None) old new = IsCut old × (new ≡ old)
KeepsProfile (Err fault) old new =
    (fault ≢ OutOfMemory → Breaks old fault)
    × (fault ≡ OutOfMemory → (found : Record) × (rest : Received) × Leads found old rest)
    × (new ≡ old)

-- ---- the writers

-- the Status that answers a call: code 0 and no text, or the fault's code and text
abbrev pub status_of : Option Fault → Record
status_of None = Status 0 []
status_of (Some fault) = Status (grpc_number (code_of fault)) (fault_text fault)
