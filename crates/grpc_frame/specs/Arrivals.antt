-- What a reader of records does with an input that comes in pieces.
use Rattle.std.specs.Prelude.{◌≡◌, ◌≢◌, ℕ, ◌+◌, ◌*◌, ◌⊎◌, List, length, Option, Some, None, Result}
use Rattle.std.specs.Prelude.{Ok, Err}
use Rattle.scan_base.specs.declared.fault.Fault.{Fault}
use Rattle.scan_base.specs.declared.fault.Fault.TheVariants.{OutOfMemory, Transport}
use Rattle.grpc_frame.specs.declared.record.Record.{Record}
use Rattle.grpc_frame.specs.Records.{Received, with_more, Leads, Breaks, IsCut}

-- no flaw stands in front
abbrev pub IsSound : Received → Type 0
IsSound left = (fault : Fault) → ¬ Breaks left fault

-- Why no record was taken from the front: a read failed while more had to come; memory was refused,
-- and no flaw stands there; or a flaw does.
abbrev pub IsReason : Fault → Received → Type 0
IsReason fault left = ((fault ≡ Transport) × IsCut left)
    ⊎ (((fault ≡ OutOfMemory) × IsSound left) ⊎ Breaks left fault)

-- The record in front once these bytes came after what was there. Nothing where they end before one
-- is whole. After a fault all that came is still there.
abbrev pub Arrives : Result (Option Record) Fault → Received → Received → List ℕ → Type 0
Arrives (Ok (Some found)) old new came = Leads found (with_more old came) new
Arrives (Ok None) old new came = (new ≡ with_more old came) × IsCut new
Arrives (Err fault) old new came = (new ≡ with_more old came) × IsReason fault new

-- a failed transport is counted, and no other fault
abbrev pub CountsTransport : {A : Type 0} → Result A Fault → ℕ → ℕ → Type 0
CountsTransport (Ok x) old new = new ≡ old
CountsTransport (Err fault) old new =
    (fault ≡ Transport → new ≡ old + 1) × (fault ≢ Transport → new ≡ old)

-- A measure that each piece and each record lowers: the turns of the reader, and what waits to be
-- cut into records.
abbrev pub work_left : ℕ → Received → ℕ
work_left turns left = turns * 262145 + length left.bytes
