-- How rows are cut into ranges.
use Rattle.std.specs.Prelude.{◌≡◌, ℕ, zero, suc, ◌+◌, ◌*◌, ◌/◌, ◌≤◌, List, [], ◌∷◌, ◌++◌, min, max}
use Rattle.scan_base.specs.Limits.{most_endpoints}
use Rattle.endpoint_split.specs.declared.ranges.Range.{Range}

-- how many ranges: as many as parts, but no more than an info has endpoints, nor than rows, and at
-- least one
abbrev pub count_of : ℕ → ℕ → ℕ
count_of rows parts = max (min (min parts most_endpoints) rows) 1

-- range i of p, rounded down
abbrev pub range_at : ℕ → ℕ → ℕ → Range
range_at rows p i = record { from = i * rows / p; to = (i + 1) * rows / p }

-- the first n of p ranges
abbrev pub first_ranges : ℕ → ℕ → ℕ → List Range
first_ranges rows p zero = []
first_ranges rows p (suc n) = first_ranges rows p n ++ range_at rows p n ∷ []

-- the ranges of so many rows in so many parts
unfoldable pub ranges_of : ℕ → ℕ → List Range
ranges_of rows parts = first_ranges rows (count_of rows parts) (count_of rows parts)

-- the ranges lead from a to b, with no gap and no overlap
abbrev pub IsPartition : ℕ → ℕ → List Range → Type 0
IsPartition a b [] = a ≡ b
IsPartition a b (r ∷ rs) = (r.from ≡ a) × (r.from ≤ r.to) × IsPartition r.to b rs

-- the ranges of any rows, in any number of parts, lead from the first row to the last
abbrev pub RangesArePartition : Type 0
RangesArePartition = (rows parts : ℕ) → IsPartition 0 rows (ranges_of rows parts)
