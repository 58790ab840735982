-- Inside: what reading one piece does.
use Rattle.std.specs.Prelude.{◌≡◌, ℕ, List, [], ◌++◌, length, Result, Ok, Err}
use Rattle.scan_base.specs.declared.fault.Fault.{Fault}

-- a piece of so many bytes was read after these; none where the read failed
abbrev pub ReadsIn : Result ℕ Fault → List ℕ → List ℕ → List ℕ → Type 0
ReadsIn (Ok count) old new came = (new ≡ old ++ came) × (length came ≡ count)
ReadsIn (Err fault) old new came = (new ≡ old) × (came ≡ [])
