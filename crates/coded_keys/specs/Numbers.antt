-- Numbers of values that were seen.
use Rattle.std.specs.Prelude.{◌≡◌, ◌<◌, ℕ, List, All, IfSome, Option, Some, None}
use Rattle.scan_base.specs.declared.value.Value.{Value}
use Rattle.arrays.specs.Batch.{BatchAt}
use Rattle.coded_keys.specs.Keys.{part_in}
use Rattle.coded_keys.specs.declared.key_part.KeyPart.{KeyPart}
use Rattle.coded_keys.specs.declared.numbers.SeenNumber.{SeenNumber}

-- the value of a part of a key
abbrev pub value_in : KeyPart → Value
value_in at = part_in at.batch.now at.columns.now at.row at.part

-- the number that is kept of a row of the batch is that of its value
abbrev pub IsSeenNumber : (Value → Option ℕ) → BatchAt → List ℕ → SeenNumber → Type 0
IsSeenNumber numbers batch columns seen =
    seen.row < batch.rows → numbers (part_in batch columns seen.row seen.part) ≡ Some seen.number

-- each number that is kept is
abbrev pub AreNumbers : (Value → Option ℕ) → BatchAt → List ℕ → List (Option SeenNumber) → Type 0
AreNumbers numbers batch columns places =
    All (λ (place : Option SeenNumber). IfSome place (IsSeenNumber numbers batch columns)) places

-- no place has a number
abbrev pub AreFree : List (Option SeenNumber) → Type 0
AreFree places = All (λ (place : Option SeenNumber). place ≡ None) places
