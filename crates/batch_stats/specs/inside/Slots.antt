-- The ends of the values of slots.
use Rattle.std.specs.Prelude.{◌≡◌, ◌≤◌, ◌<◌, ◌-◌, ℕ, Bool, true, List, Option, None, map}
use Rattle.std.specs.List.{fold, range_with_len}
use Rattle.scan_base.specs.declared.value.Value.{Value}
use Rattle.arrays.specs.Validity.{is_valid, where_valid}
use Rattle.batch_stats.specs.Stats.{with_value}

-- ends with the values of the slots `from` up to, not with, `to`
abbrev pub ends_with : Option (Value × Value) → (ℕ → Value) → ℕ → ℕ → Option (Value × Value)
ends_with ends slot from to = fold with_value ends (map slot (range_with_len from (to - from)))

-- no slot before a place is valid, and this one is
pub record IsFirstValid (validity : Option (List Bool)) (from to place : ℕ) : Type 0 where
  pub low : from ≤ place
  pub high : place < to
  pub valid : is_valid validity place ≡ true
  pub nulls : (value : ℕ → Value) → ends_with None (where_valid validity value) from to
      ≡ ends_with None (where_valid validity value) place to

-- no slot is valid
abbrev pub AreNulls : Option (List Bool) → ℕ → ℕ → Type 0
AreNulls validity from to =
    (value : ℕ → Value) → ends_with None (where_valid validity value) from to ≡ None
