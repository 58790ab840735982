-- Which slots are valid: each, where there are no bits, and else those whose bit is 1.
use Rattle.std.specs.Prelude.{◌≡◌, ◌≤◌, ℕ, ◌*◌, Bool, true, false, List, length, Option, Some, None}
use Rattle.std.specs.Prelude.{get_or, nat_le, if◌then◌else◌, Result, Ok}
use Rattle.bitmap.specs.Bits.{bits_of}
use Rattle.scan_base.specs.declared.fault.Fault.{Fault}
use Rattle.scan_base.specs.declared.fault.Fault.TheVariants.{BadBatch}
use Rattle.scan_base.specs.declared.value.Value.{Value}
use Rattle.scan_base.specs.declared.value.Value.TheVariants.{Null}
use Rattle.scan_base.specs.Reading.{◌>>=◌, demand}

-- whether the slot at a place is valid
abbrev pub is_valid : Option (List Bool) → ℕ → Bool
is_valid None place = true
is_valid (Some bits) place = get_or bits place false

-- what the slot at a place holds, where `value` says it for the valid ones
abbrev pub where_valid : Option (List Bool) → (ℕ → Value) → ℕ → Value
where_valid validity value place = if is_valid validity place then value place else Null

-- the bits of `len` slots at the front of a buffer, where there is one; it has room for them
abbrev pub validity_of : Option (List ℕ) → ℕ → Result (Option (List Bool)) Fault
validity_of None len = Ok None
validity_of (Some bytes) len =
    demand (nat_le len (8 * length bytes)) BadBatch >>= λ _. Ok (Some (bits_of bytes 0 len))

-- the bits, where there are some, are those of so many slots
abbrev pub IsLong : Option (List Bool) → ℕ → Type 0
IsLong None len = Unit {0}
IsLong (Some bits) len = length bits ≡ len

-- the bits, where there are some, are those of the slots below a place, and maybe of more
abbrev pub HasBits : Option (List Bool) → ℕ → Type 0
HasBits validity to = (len : ℕ) × (to ≤ len) × IsLong validity len
