-- Where a fault is due, and where memory that was refused may be answered in its place.
use Rattle.std.specs.Prelude.{◌≡◌, ◌≢◌, Result, Ok, Err}
use Rattle.scan_base.specs.declared.fault.Fault.{Fault}
use Rattle.scan_base.specs.declared.fault.Fault.TheVariants.{OutOfMemory}

-- A refusal: where a glance that takes no memory is refused, for that cause and no other; after it
-- for the fault of what is read, or because memory was refused.
abbrev pub RefusedFor : {X Y : Type 0} → Result X Fault → Result Y Fault → Fault → Type 0
RefusedFor (Err cause) read fault = fault ≡ cause
RefusedFor (Ok seen) read fault = fault ≢ OutOfMemory → read ≡ Err fault

-- the same where all is read without memory: for its own fault, or where it has none because memory
-- was refused
abbrev pub RefusedBy : {X : Type 0} → Result X Fault → Fault → Type 0
RefusedBy (Ok x) fault = fault ≡ OutOfMemory
RefusedBy (Err cause) fault = fault ≡ cause

-- what a call gave, seen by `view`: this value, or such a refusal
abbrev pub GivesBehind : {X Y Z : Type 0} → Result X Fault → (Y → Z) → Result Y Fault →
    Result Z Fault → Type 0
GivesBehind glance view (Ok x) read = read ≡ Ok (view x)
GivesBehind glance view (Err fault) read = RefusedFor glance read fault
