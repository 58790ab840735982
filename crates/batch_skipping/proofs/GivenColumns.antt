-- The columns of a batch that a scan gives.
use Rattle.std.specs.Prelude.{IsTrue}
use Rattle.std.proofs.Common.{◌≡◌, ◌<◌, ℕ, zero, suc, ◌+◌, ◌-◌, ◌&&◌, nat_le, true, List, [], ◌∷◌, ◌++◌, length, get_or, nat_lt, Option, Some, slice_get, refl, sym, ap, ◌∙◌, arith}
use Rattle.std.proofs.lemmas.Bool.{and_parts, leb-true, ltb-true}
use Rattle.std.specs.List.{list_all}
use Rattle.arrays.specs.Column.{ColumnAt}
use Rattle.rewrite.specs.Conjuncts.{is_between}
use Rattle.typed_plan.specs.declared.plan.Columns.TheVariants.{These}
use Rattle.typed_plan.specs.TypedPlans.{has_columns}
use Rattle.batch_skipping.specs.ChosenColumns.{listed, columns_at}
use Rattle.batch_skipping.specs.OpenedBatches.{given_width}

there_at : {X : Type 0} (xs : List X) (i : ℕ) → i < length xs → (x : X) × (slice_get xs i ≡ Some x)
there_at [] i h = absurd (omega (arith, h))
there_at (x ∷ xs) zero h = (x, refl)
there_at (x ∷ xs) (suc i) h = there_at xs i (omega (arith, h))

-- the column at a place is the one of the number that stands there
pub given_at : (numbers : List ℕ) (columns : List ColumnAt) (k : ℕ) → list_all (λ number. nat_lt number (length columns)) numbers ≡ true →
    k < length numbers → slice_get (columns_at numbers columns) k ≡ slice_get columns (get_or numbers k 0)
given_at [] columns k within h = absurd (omega (arith, h))
given_at (number ∷ numbers) columns k within h =
    let parts = and_parts (nat_lt number (length columns)) (list_all (λ number. nat_lt number (length columns)) numbers) within in
    let one = there_at columns number (ltb-true number (length columns) parts.0) in
    ap (λ (found : Option ColumnAt). slice_get (listed found ++ columns_at numbers columns) k) one.1
    ∙ by (λ (k : ℕ). given_at numbers columns k parts.1) k h one.0 one.1
  where
    by : ((k : ℕ) → k < length numbers → slice_get (columns_at numbers columns) k ≡ slice_get columns (get_or numbers k 0)) →
        (k : ℕ) → k < length (number ∷ numbers) → (column : ColumnAt) → slice_get columns number ≡ Some column →
        slice_get (column ∷ columns_at numbers columns) k ≡ slice_get columns (get_or (number ∷ numbers) k 0)
    by rest zero h column there = sym there
    by rest (suc k) h column there = rest k (omega (arith, h))

-- also of a column of the place that is counted among those of all places
pub these_at : (numbers : List ℕ) (columns : List ColumnAt) (first column : ℕ) →
    IsTrue (has_columns (length columns) (These numbers) && is_between first (given_width (These numbers) (length columns)) column) →
    slice_get (columns_at numbers columns) (column - first) ≡ slice_get columns (get_or numbers (column - first) 0)
these_at numbers columns first column h =
    let both = and_parts (has_columns (length columns) (These numbers)) (is_between first (length numbers) column) h in
    let ends = and_parts (nat_le first column) (nat_lt column (first + length numbers)) both.1 in
    let low = leb-true first column ends.0 in
    let high = ltb-true column (first + length numbers) ends.1 in
    given_at numbers columns (column - first) both.0 (omega (arith, low, high))
