-- Slots of packed truth values.
use Rattle.std.specs.Prelude.{ℕ, ◌*◌, Bool as Truth, List, length, Option, nat_le, Result, Ok}
use Rattle.bitmap.specs.Bits.{bits_of}
use Rattle.scan_base.specs.declared.fault.Fault.{Fault}
use Rattle.scan_base.specs.declared.fault.Fault.TheVariants.{BadBatch}
use Rattle.scan_base.specs.Reading.{◌>>=◌, demand}
use Rattle.arrays.specs.Validity.{validity_of, IsLong}

-- truth values, and which slots are valid
pub record BoolsAt : Type 0 where
  pub validity : Option (List Truth)
  pub values : List Truth

-- the slots of these buffers, which have room for them
unfoldable pub bools_of : Option (List ℕ) → List ℕ → ℕ → Result BoolsAt Fault
bools_of validity values len = do
  bits ← validity_of validity len
  _ ← demand (nat_le len (8 * length values)) BadBatch
  Ok (record { validity = bits; values = bits_of values 0 len })

-- there is a validity bit for each slot, where there are some
abbrev pub AreBools : BoolsAt → Type 0
AreBools cells = IsLong cells.validity (length cells.values)
