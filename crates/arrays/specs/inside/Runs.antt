-- Inside: how the code keeps the parts of a dictionary.
use Rattle.std.specs.Prelude.{◌≡◌, ◌≤◌, ◌<◌, ℕ, Bool, false, List, length, take, slice_index}
use Rattle.std.specs.List.{flat_map, list_any}
use Rattle.scan_base.specs.declared.value.Value.{Value}
use Rattle.scan_base.specs.Limits.{most_values}
use Rattle.scan_base.specs.Value.{is_null}
use Rattle.arrays.specs.Texts.{TextsAt, texts_values}

-- the values of all parts, in order
abbrev pub parts_values : List TextsAt → List Value
parts_values parts = flat_map texts_values parts

-- the values of all runs, in order
abbrev pub runs_values : List (List Value) → List Value
runs_values runs = flat_map (λ run. run) runs

-- A run of parts counts its values too, knows how many of them stand in front of each part, and
-- whether one may be null.
pub record IsRun (parts : List TextsAt) (starts : List ℕ) (count : ℕ) (nulls : Bool) : Type 0 where
  pub counted : length (parts_values parts) ≡ count
  pub small : count ≤ most_values
  pub many : length starts ≡ length parts
  pub fronts : (i : ℕ) → i < length parts →
      slice_index starts i ≡ length (parts_values (take i parts))
  pub sound : nulls ≡ false → list_any is_null (parts_values parts) ≡ false
