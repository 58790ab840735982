-- Counts, as tallies.
use Rattle.std.proofs.Common.{◌≡◌, ◌≤◌, ◌<◌, ◌-◌, ℕ, zero, suc, ◌+◌, List, ◌∷◌, ◌++◌, length, get_or, take, replicate, slice_set, refl, sym, ap, ◌∙◌, arith}
use Rattle.std.proofs.lemmas.Int.{ints}
use Rattle.std.proofs.lemmas.List.{get_or-map, length-map, map-append, map-set, take-map}
use Rattle.scan_base.specs.declared.value.Value.{Value}
use Rattle.scan_base.specs.declared.value.Value.TheVariants.{Null, Bool as Flag, Int, Text}
use Rattle.arrays.specs.Batch.{row_of}
use Rattle.arrays.specs.Column.{ColumnAt}
use Rattle.typed_plan.specs.declared.plan.Aggregate.{Aggregate}
use Rattle.group_slots.specs.declared.tally.Tally.{Tally}
use Rattle.group_slots.specs.Tallies.{no_rows, added, counted}
use Rattle.group_slots.specs.Counting.{AreWithin, IsSmall}
use Rattle.group_slots.specs.HeldTallies.{count_tally, count_tallies, padded}
use Rattle.group_slots.proofs.Stepping.{IsStepped, one_within, step}

-- the tally of a group
pub count_at : (counts : List ℕ) (group d : ℕ) → group < length counts → get_or (count_tallies counts) group no_rows ≡ count_tally (get_or counts group d)
count_at counts group d low = get_or-map count_tally counts group d no_rows low

-- sums nothing, so it is small
pub count_small : (count : ℕ) → IsSmall (count_tally count)
count_small count = record { low = omega (arith, ints); high = omega (arith, ints) }

-- no count is more than all
pub count_few : (most : ℕ) (counts : List ℕ) (group d : ℕ) → AreWithin most (count_tallies counts) → group < length counts → get_or counts group d ≤ most
count_few most counts group d within low =
    let one = one_within most (count_tallies counts) group no_rows within (omega (arith, low, length-map counts count_tally)) in
    omega (arith, one, ap (λ (tally : Tally). tally.count) (count_at counts group d low))

-- a value more counts as much, whatever was counted before
pub counted_more : (value : Value) (count more : ℕ) → counted (count_tally 0) value ≡ count_tally more → counted (count_tally count) value ≡ count_tally (count + more)
counted_more Null count more is = ap count_tally (omega (arith, ap (λ (tally : Tally). tally.count) is))
counted_more (Flag flag) count more is = ap count_tally (omega (arith, ap (λ (tally : Tally). tally.count) is))
counted_more (Int number) count more is = ap count_tally (omega (arith, ap (λ (tally : Tally). tally.count) is))
counted_more (Text bytes) count more is = ap count_tally (omega (arith, ap (λ (tally : Tally). tally.count) is))

-- one row more
pub count_step : (item : Aggregate) (columns : List ColumnAt) (groups rows : List ℕ) (fed : ℕ) (before : List Tally) (k : ℕ) (counts : List ℕ) (d new : ℕ) →
    IsStepped item columns groups rows fed before k (count_tallies counts) → get_or groups k 0 < length counts →
    added item (count_tally (get_or counts (get_or groups k 0) d)) (row_of columns (get_or rows k 0)) ≡ count_tally new →
    new ≤ get_or counts (get_or groups k 0) d + 1 →
    IsStepped item columns groups rows fed before (k + 1) (count_tallies (slice_set counts (get_or groups k 0) new))
count_step item columns groups rows fed before k counts d new so low made few =
    let group = get_or groups k 0 in
    let row = row_of columns (get_or rows k 0) in
    let is = count_at counts group d low in
    rw map-set
    (step item columns groups rows fed before k (count_tallies counts) (count_tally new) so (omega (arith, low, length-map counts count_tally))
    (sym made ∙ ap (λ (tally : Tally). added item tally row) (sym is))
    (omega (arith, few, ap (λ (tally : Tally). tally.count) is)) (count_small new))

-- counts of no rows are tallies of no rows
none_replicated : (count : ℕ) → count_tallies (replicate count 0) ≡ replicate count no_rows
none_replicated zero = refl
none_replicated (suc count) = ap (λ (tallies : List Tally). no_rows ∷ tallies) (none_replicated count)

-- so many counts are so many tallies
pub counts_padded : (groups : ℕ) (counts : List ℕ) → count_tallies (take groups counts ++ replicate (groups - length counts) 0) ≡ padded groups (count_tallies counts)
counts_padded groups counts =
    map-append count_tally (take groups counts) (replicate (groups - length counts) 0)
    ∙ ap (λ (front : List Tally). front ++ count_tallies (replicate (groups - length counts) 0)) (sym (take-map count_tally groups counts))
    ∙ ap (λ (back : List Tally). take groups (count_tallies counts) ++ back) (none_replicated (groups - length counts))
    ∙ ap (λ (n : ℕ). take groups (count_tallies counts) ++ replicate (groups - n) no_rows) (sym (length-map counts count_tally))
