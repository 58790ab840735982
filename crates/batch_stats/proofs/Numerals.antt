-- Numbers of packed types as values.
use Rattle.std.proofs.Common.{◌≡◌, ◌+◌, ℕ, ℤ, Bool, if◌then◌else◌, List, Option, None, ap, ◌∙◌}
use Rattle.scan_base.specs.declared.value.Value.TheVariants.{Int, Null}
use Rattle.arrays.specs.Number.{decimal_at, integer_at}
use Rattle.arrays.specs.Column.{ColumnAt}
use Rattle.arrays.specs.Decimals.{DecimalsAt}
use Rattle.arrays.specs.Integers.{IntegersAt}
use Rattle.arrays.specs.Layout.{layout_slot}
use Rattle.arrays.specs.Validity.{is_valid, where_valid}
use Rattle.arrays.specs.declared.layout.Layout.{Layout}
use Rattle.arrays.specs.declared.layout.Layout.TheVariants as layout
use Rattle.batch_stats.specs.declared.stats.Stats.{Stats}
use Rattle.batch_stats.specs.HeldStats.{ends_held, AreSlots, IsStatsOf}
use Rattle.batch_stats.specs.inside.Slots.{ends_with}
use Rattle.batch_stats.proofs.Passes.{column_pass, pass_same}

same_numbers : (validity other : Option (List Bool)) (number at : ℕ → ℤ) → validity ≡ other → ((place : ℕ) → number place ≡ at place) → (place : ℕ) →
    where_valid validity (λ p. Int (number p)) place ≡ where_valid other (λ p. Int (at p)) place
same_numbers validity other number at is same place =
    ap (λ (v : Option (List Bool)). where_valid v (λ p. Int (number p)) place) is ∙ ap (λ (z : ℤ). if is_valid other place then Int z else Null) (same place)

module _ (first len : ℕ) (stats : Stats) (validity : Option (List Bool)) (number : ℕ → ℤ)
    (ends : (column : ColumnAt) → ends_held column stats ≡ ends_with None (where_valid validity (λ p. Int (number p))) first (first + len))
    (slots : (column : ColumnAt) → AreSlots column stats) where
  abbrev column_of : Layout → ColumnAt
  column_of known = record { layout = known; first = first; len = len }

  -- the statistics of packed numbers are those of the column
  pub integers_are : (cells : IntegersAt) → validity ≡ cells.validity → ((place : ℕ) → number place ≡ integer_at cells.integer cells.values place) →
      IsStatsOf (column_of (layout.Integers cells)) stats
  integers_are cells is same = record {
    ends =
        ends (column_of (layout.Integers cells))
        ∙ pass_same None _ (layout_slot (layout.Integers cells)) first (first + len) (λ place low high. same_numbers validity cells.validity number (λ p. integer_at cells.integer cells.values p) is same place)
        ∙ column_pass (column_of (layout.Integers cells));
    slots = slots (column_of (layout.Integers cells));
  }

  pub decimals_are : (cells : DecimalsAt) → validity ≡ cells.validity → ((place : ℕ) → number place ≡ decimal_at cells.values place) →
      IsStatsOf (column_of (layout.Decimals cells)) stats
  decimals_are cells is same = record {
    ends =
        ends (column_of (layout.Decimals cells))
        ∙ pass_same None _ (layout_slot (layout.Decimals cells)) first (first + len) (λ place low high. same_numbers validity cells.validity number (λ p. decimal_at cells.values p) is same place)
        ∙ column_pass (column_of (layout.Decimals cells));
    slots = slots (column_of (layout.Decimals cells));
  }
