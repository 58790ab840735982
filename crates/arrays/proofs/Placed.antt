-- Indices that lead to places of a dictionary.
use Rattle.std.proofs.Common.{◌≡◌, ◌≤◌, ℕ, ℤ, pos, negsuc, Bool, true, false, ◌||◌, List, length, is_some, refl, ap, arith}
use Rattle.std.proofs.lemmas.Option.{slice_get-get_or}
use Rattle.scan_base.specs.declared.value.Value.{Value}
use Rattle.scan_base.specs.declared.value.Value.TheVariants.{Null}
use Rattle.arrays.specs.Number.{integer_at}
use Rattle.arrays.specs.Dictionary.{entry_at}
use Rattle.arrays.specs.Indices.{IndicesAt, index_stands}
use Rattle.arrays.specs.inside.PlacedIndices.{IsPlaced}

or_passes : (a b : Bool) → b ≡ true → (a || b) ≡ true
or_passes true b e = refl
or_passes false b e = e

has_entry : (dictionary : List Value) (count : ℕ) (index : ℤ) → count ≤ length dictionary → IsPlaced count index → is_some (entry_at dictionary index) ≡ true
has_entry dictionary count (pos index) all low = ap is_some (slice_get-get_or dictionary index Null (omega arith))
has_entry dictionary count (negsuc index) all low = absurd low

-- a slot whose index is a place of the dictionary stands
pub placed_stands : (cells : IndicesAt) (count place : ℕ) → count ≤ length cells.dictionary → IsPlaced count (integer_at cells.index cells.values place) → index_stands cells place ≡ true
placed_stands cells count place all low = or_passes _ _ (has_entry cells.dictionary count (integer_at cells.index cells.values place) all low)
