-- What is known of a column's slots without looking at each.
use Rattle.std.proofs.Common.{◌≡◌, ◌≤◌, ℕ, suc, Bool as Truth, true, false, List, [], ◌∷◌, length, nat_lt, ◌||◌, if◌then◌else◌, All, refl, sym, arith}
use Rattle.std.specs.List.{list_any, filter}
use Rattle.std.proofs.lemmas.Bool.{le-ltb, lt-ltb}
use Rattle.scan_base.specs.declared.value.Value.{Value}
use Rattle.scan_base.specs.declared.value.Value.TheVariants.{Null, Int, Bool, Text}
use Rattle.scan_base.specs.Limits.{most_text_bytes}
use Rattle.arrays.specs.WrittenSlots.{text_bytes}
use Rattle.table_versions.specs.Table.{is_long_text}

-- a value whose text is short enough
short : (value : Value) → length (text_bytes value) ≤ most_text_bytes → is_long_text value ≡ false
short (Text bytes) low = le-ltb most_text_bytes (length bytes) low
short Null low = refl
short (Int number) low = refl
short (Bool flag) low = refl

-- where no text is longer than the limit, none is too long
pub none_long : (values : List Value) (most : ℕ) → most ≤ most_text_bytes → All (λ value. length (text_bytes value) ≤ most) values → list_any is_long_text values ≡ false
none_long [] most low each = refl
none_long (value ∷ values) most low each =
    rw (short value (omega (arith, low, each 0 value (omega arith)))) (none_long values most low (λ k d within. each (suc k) d (omega arith)))

-- a list has one of a kind where it has more than none of them
pub any_counted : (test : Value → Truth) (values : List Value) → list_any test values ≡ nat_lt 0 (length (filter test values))
any_counted test [] = refl
any_counted test (value ∷ values) = by (test value) (any_counted test values)
  where
    by : (found : Truth) → list_any test values ≡ nat_lt 0 (length (filter test values)) →
        (found || list_any test values) ≡ nat_lt 0 (length (if found then value ∷ filter test values else filter test values))
    by true counted = sym (lt-ltb _ _ (omega arith))
    by false counted = counted
