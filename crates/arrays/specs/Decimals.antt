-- Slots of packed decimals of 128 bits.
use Rattle.std.specs.Prelude.{◌≤◌, ℕ, ◌*◌, Bool, List, length, Option, nat_le, Result, Ok}
use Rattle.scan_base.specs.declared.fault.Fault.{Fault}
use Rattle.scan_base.specs.declared.fault.Fault.TheVariants.{BadBatch}
use Rattle.scan_base.specs.Reading.{◌>>=◌, demand}
use Rattle.arrays.specs.Number.{AreBytes}
use Rattle.arrays.specs.Validity.{validity_of, IsLong}

-- packed numbers of sixteen bytes, and which slots are valid
pub record DecimalsAt : Type 0 where
  pub validity : Option (List Bool)
  pub values : List ℕ
  pub len : ℕ

-- the slots of these buffers, which have room for them
unfoldable pub decimals_of : Option (List ℕ) → List ℕ → ℕ → Result DecimalsAt Fault
decimals_of validity values len = do
  bits ← validity_of validity len
  _ ← demand (nat_le (16 * len) (length values)) BadBatch
  Ok (record { validity = bits; values = values; len = len })

-- the buffers have room for the slots
pub record AreDecimals (cells : DecimalsAt) : Type 0 where
  pub validity : IsLong cells.validity cells.len
  pub values : 16 * cells.len ≤ length cells.values
  pub bytes : AreBytes cells.values
