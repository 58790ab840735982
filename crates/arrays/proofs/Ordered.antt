-- Numbers as they are compared.
use Rattle.std.proofs.Common.{◌≡◌, ℤ, ◌≤ℤ◌, ◌<ℤ◌, true, false, Option, Some, arith}
use Rattle.std.proofs.lemmas.Int.{ints}
use Rattle.std.specs.Cmp.{int_ranks}
use Rattle.std.specs.Ordering.{int_cmp, is_lt, MatchOrdering, partial_lt}
use Rattle.std.specs.declared.cmp.Ordering.{Ordering}
use Rattle.std.specs.declared.cmp.Ordering.TheVariants.{Less, Equal, Greater}

lesser : (x y : ℤ) (order : Ordering) → MatchOrdering order (x <ℤ y) (x ≡ y) (y <ℤ x) → is_lt order ≡ true → x ≤ℤ y
lesser x y Less ranks e = let lt : x <ℤ y = ranks in omega (arith, ints, lt)
lesser x y Equal ranks e = absurd (let no : ⊥ = cc in no)
lesser x y Greater ranks e = absurd (let no : ⊥ = cc in no)

other : (x y : ℤ) (order : Ordering) → MatchOrdering order (x <ℤ y) (x ≡ y) (y <ℤ x) → is_lt order ≡ false → y ≤ℤ x
other x y Less ranks e = absurd (let no : ⊥ = cc in no)
other x y Equal ranks e = let same : x ≡ y = ranks in omega (arith, ints, same)
other x y Greater ranks e = let gt : y <ℤ x = ranks in omega (arith, ints, gt)

-- what is below another is not above it, and what is not, is not below the other
pub below : {X : Type 0} (order : X → X → Option Ordering) (value : X → ℤ) (x y : X) → order x y ≡ Some (int_cmp (value x) (value y)) → partial_lt order x y ≡ true → value x ≤ℤ value y
below order value x y is lt = lesser (value x) (value y) (int_cmp (value x) (value y)) (int_ranks (value x) (value y)) (rw is at lt)

pub not_below : {X : Type 0} (order : X → X → Option Ordering) (value : X → ℤ) (x y : X) → order x y ≡ Some (int_cmp (value x) (value y)) → partial_lt order x y ≡ false → value y ≤ℤ value x
not_below order value x y is lt = other (value x) (value y) (int_cmp (value x) (value y)) (int_ranks (value x) (value y)) (rw is at lt)

pub through : (x y z : ℤ) → x ≤ℤ y → y ≤ℤ z → x ≤ℤ z
through x y z low high = omega (arith, ints, low, high)
