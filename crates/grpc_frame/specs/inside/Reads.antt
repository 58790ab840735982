-- Inside: what reading one piece does.
use Rattle.std.specs.Prelude.{◌≡◌, ◌⊎◌, ℕ, List, [], ◌++◌, length, Result, Ok, Err}
use Rattle.scan_base.specs.declared.fault.Fault.{Fault}
use Rattle.scan_base.specs.declared.fault.Fault.TheVariants.{OutOfMemory, Transport}
use Rattle.grpc_frame.specs.Records.{Received, with_more}

-- a piece of so many bytes was read after these; none where the read failed
abbrev pub ReadsIn : Result ℕ Fault → List ℕ → List ℕ → List ℕ → Type 0
ReadsIn (Ok count) old new came = (new ≡ old ++ came) × (length came ≡ count)
ReadsIn (Err fault) old new came = (new ≡ old) × (came ≡ [])

-- a piece of so many bytes was taken in; nothing came and nothing changed where the read failed or
-- memory was refused
abbrev pub TakesIn : Result ℕ Fault → Received → Received → List ℕ → Type 0
TakesIn (Ok count) old new came = (new ≡ with_more old came) × (length came ≡ count)
TakesIn (Err fault) old new came =
    ((fault ≡ Transport) ⊎ (fault ≡ OutOfMemory)) × ((new ≡ old) × (came ≡ []))
