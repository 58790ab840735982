-- Values none of which is null.
use Rattle.std.proofs.Common.{◌≡◌, ◌<◌, ◌≤◌, ℤ, pos, negsuc, ℕ, zero, suc, ◌+◌, List, [], ◌∷◌, map, slice_get, unwrap_or, is_some, Bool, true, false, ◌||◌, refl, arith}
use Rattle.std.specs.List.{list_any, range_with_len}
use Rattle.scan_base.specs.declared.value.Value.{Value}
use Rattle.scan_base.specs.declared.value.Value.TheVariants.{Null}
use Rattle.scan_base.specs.Value.{is_null}
use Rattle.arrays.specs.Dictionary.{entry_at}

-- where no slot is null, no value of them is
pub none_listed : (slot : ℕ → Value) (first len : ℕ) → ((place : ℕ) → first ≤ place → place < first + len → is_null (slot place) ≡ false) →
    list_any is_null (map slot (range_with_len first len)) ≡ false
none_listed slot first zero none = refl
none_listed slot first (suc len) none =
    rw (none first (omega arith) (omega arith)) (none_listed slot (first + 1) len (λ place low high. none place (omega arith) (omega arith)))

-- where no value is null, the one at a place is not
pub none_at : (values : List Value) (place : ℕ) → list_any is_null values ≡ false → is_some (slice_get values place) ≡ true →
    is_null (unwrap_or (slice_get values place) Null) ≡ false
none_at [] place none some = absurd (let no : ⊥ = cc in no)
none_at (value ∷ values) zero none some = first (is_null value) (list_any is_null values) none
  where
    first : (a b : Bool) → (a || b) ≡ false → a ≡ false
    first true b e = e
    first false b e = refl
none_at (value ∷ values) (suc place) none some = none_at values place (others (is_null value) (list_any is_null values) none) some
  where
    others : (a b : Bool) → (a || b) ≡ false → b ≡ false
    others true b e = absurd (let no : ⊥ = cc in no)
    others false b e = e

-- nor is the one that an index leads to
pub led_to : (dictionary : List Value) (index : ℤ) → list_any is_null dictionary ≡ false → is_some (entry_at dictionary index) ≡ true →
    is_null (unwrap_or (entry_at dictionary index) Null) ≡ false
led_to dictionary (pos index) none some = none_at dictionary index none some
led_to dictionary (negsuc index) none some = absurd (let no : ⊥ = cc in no)
