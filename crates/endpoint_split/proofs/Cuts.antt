-- The ranges are a partition.
use Rattle.std.proofs.Common.{◌≡◌, ℕ, zero, suc, ◌+◌, ◌*◌, ◌/◌, ◌<◌, ◌≤◌, List, [], ◌∷◌, ◌++◌, length, refl, sym, ap, subst, ◌∙◌, arith, add-one, length-append}
use Rattle.std.proofs.lemmas.Nat.{le-div}
use Rattle.std.proofs.Math.Nat.{zero-div, zero-mul, div-mul-le_self, mul-div_cancel_left}
use Rattle.endpoint_split.specs.declared.ranges.Range.{Range}
use Rattle.endpoint_split.specs.Split.{count_of, range_at, first_ranges, ranges_of, IsPartition, RangesArePartition}

pub length-first_ranges : (rows p n : ℕ) → length (first_ranges rows p n) ≡ n
length-first_ranges rows p zero = refl
length-first_ranges rows p (suc n) = omega (arith, length-append (first_ranges rows p n) (range_at rows p n ∷ []), length-first_ranges rows p n)

-- one more range at the end
one_more : (a b : ℕ) (rs : List Range) (r : Range) → IsPartition a b rs → r.from ≡ b → r.from ≤ r.to → IsPartition a r.to (rs ++ r ∷ [])
one_more a b [] r whole starts rises = (starts ∙ sym whole, rises, refl)
one_more a b (q ∷ rs) r whole starts rises = (whole.0, whole.1, one_more q.to b rs r whole.2 starts rises)

pub rises : (rows p i : ℕ) → 0 < p → i * rows / p ≤ (i + 1) * rows / p
rises rows p i some = le-div (i * rows / p) ((i + 1) * rows) p some (omega (arith, div-mul-le_self (i * rows) p))

pub is_partition : (rows p n : ℕ) → 0 < p → IsPartition 0 (n * rows / p) (first_ranges rows p n)
is_partition rows p zero some = sym (ap (λ n. n / p) (zero-mul rows) ∙ zero-div p)
is_partition rows p (suc n) some =
    rw (← add-one n) (one_more 0 (n * rows / p) (first_ranges rows p n) (range_at rows p n) (is_partition rows p n some) refl (rises rows p n some))

-- all p of them end at the last row
pub all_partition : (rows p : ℕ) → 0 < p → IsPartition 0 rows (first_ranges rows p p)
all_partition rows p some = subst (λ n. IsPartition 0 n (first_ranges rows p p)) (mul-div_cancel_left rows some) (is_partition rows p p some)

pub ranges_are_partition : RangesArePartition
unfolding ranges_of
ranges_are_partition rows parts = all_partition rows (count_of rows parts) (omega arith)
