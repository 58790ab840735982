-- Slots of packed integers.
use Rattle.std.specs.Prelude.{◌≤◌, ℕ, ◌*◌, Bool, List, length, Option, nat_le, Result, Ok}
use Rattle.arrow_types.specs.declared.data_type.IntegerType.{IntegerType}
use Rattle.scan_base.specs.declared.fault.Fault.{Fault}
use Rattle.scan_base.specs.declared.fault.Fault.TheVariants.{BadBatch}
use Rattle.scan_base.specs.Reading.{◌>>=◌, demand}
use Rattle.arrays.specs.Number.{byte_width, AreBytes}
use Rattle.arrays.specs.Validity.{validity_of, IsLong}

-- packed numbers of one type, and which slots are valid
pub record IntegersAt : Type 0 where
  pub integer : IntegerType
  pub validity : Option (List Bool)
  pub values : List ℕ
  pub len : ℕ

-- the slots of these buffers, which have room for them
unfoldable pub integers_of : IntegerType → Option (List ℕ) → List ℕ → ℕ → Result IntegersAt Fault
integers_of integer validity values len = do
  bits ← validity_of validity len
  _ ← demand (nat_le (byte_width integer * len) (length values)) BadBatch
  Ok (record { integer = integer; validity = bits; values = values; len = len })

-- the buffers have room for the slots
pub record AreIntegers (cells : IntegersAt) : Type 0 where
  pub validity : IsLong cells.validity cells.len
  pub values : byte_width cells.integer * cells.len ≤ length cells.values
  pub bytes : AreBytes cells.values
