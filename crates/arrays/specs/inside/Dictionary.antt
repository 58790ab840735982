-- Inside: what the code keeps of a dictionary next to its values.
use Rattle.std.specs.Prelude.{◌≡◌, ◌≤◌, ℕ, List, length, All}
use Rattle.scan_base.specs.declared.value.Value.{Value}
use Rattle.scan_base.specs.Limits.{most_values}
use Rattle.scan_base.specs.Value.{IsTextOrNull}
use Rattle.arrays.specs.WrittenSlots.{text_bytes}

-- A dictionary counts its values, which are texts and nulls, and no more than there may be. It
-- knows a number of bytes that none of the texts has more of.
pub record IsDictionary (values : List Value) (count longest : ℕ) : Type 0 where
  pub counted : length values ≡ count
  pub small : count ≤ most_values
  pub texts : All IsTextOrNull values
  pub short : All (λ value. length (text_bytes value) ≤ longest) values
