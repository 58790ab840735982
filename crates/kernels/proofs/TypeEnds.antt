-- Ends of ranges among the numbers of a type.
use Rattle.std.proofs.Common.{◌≡◌, ℤ, pos, ◌≤ℤ◌, ◌<ℤ◌, Bool, true, false, ◌&&◌, int_le, refl, sym, ap, ◌∙◌, arith}
use Rattle.std.specs.Ordering.{int_eq}
use Rattle.std.proofs.lemmas.Bool.{false≢true}
use Rattle.std.proofs.lemmas.Bool.Decides.{Decides-int_eq}
use Rattle.std.proofs.lemmas.Int.{ints}
use Rattle.kernels.specs.Ranges.{is_within}

pub le_true : (a b : ℤ) → a ≤ℤ b → int_le a b ≡ true
le_true a b le = by (int_le a b) refl
  where
    by : (s : Bool) → int_le a b ≡ s → s ≡ true
    by true p = refl
    by false p = absurd (omega (arith, ints, p, le))

pub le_false : (a b : ℤ) → b <ℤ a → int_le a b ≡ false
le_false a b lt = by (int_le a b) refl
  where
    by : (s : Bool) → int_le a b ≡ s → s ≡ false
    by true p = absurd (omega (arith, ints, p, lt))
    by false p = refl

-- a number that is none from one to another, and is not above the other, is below the first
below_first : (low high number : ℤ) → ((low ≤ℤ number) × (number ≤ℤ high) → ⊥) → number ≤ℤ high → number <ℤ low
below_first low high number absent le = by (int_le low number) refl
  where
    by : (s : Bool) → int_le low number ≡ s → number <ℤ low
    by true p = absurd (absent (omega (arith, ints, p), le))
    by false p = omega (arith, ints, p)

above_last : (low high number : ℤ) → ((low ≤ℤ number) × (number ≤ℤ high) → ⊥) → low ≤ℤ number → high <ℤ number
above_last low high number absent le = by (int_le number high) refl
  where
    by : (s : Bool) → int_le number high ≡ s → high <ℤ number
    by true p = absurd (absent (le, omega (arith, ints, p)))
    by false p = omega (arith, ints, p)

-- what the type does not have is below all of it where it is below 0, and else above all of it
pub from_least : (low high number other : ℤ) → ((low ≤ℤ number) × (number ≤ℤ high) → ⊥) → pos 0 ≤ℤ high → number <ℤ pos 0 → low ≤ℤ other →
    int_le low other ≡ int_le number other
from_least low high number other absent top neg has =
    let below = below_first low high number absent (omega (arith, ints, top, neg)) in
    le_true low other has ∙ sym (le_true number other (omega (arith, ints, below, has)))

pub none_from : (low high number other : ℤ) → ((low ≤ℤ number) × (number ≤ℤ high) → ⊥) → low ≤ℤ pos 0 → pos 0 ≤ℤ number → other ≤ℤ high →
    int_le number other ≡ false
none_from low high number other absent bottom here has =
    let above = above_last low high number absent (omega (arith, ints, bottom, here)) in
    le_false number other (omega (arith, ints, above, has))

pub up_to_most : (low high number other : ℤ) → ((low ≤ℤ number) × (number ≤ℤ high) → ⊥) → low ≤ℤ pos 0 → pos 0 ≤ℤ number → other ≤ℤ high →
    int_le other high ≡ int_le other number
up_to_most low high number other absent bottom here has =
    let above = above_last low high number absent (omega (arith, ints, bottom, here)) in
    le_true other high has ∙ sym (le_true other number (omega (arith, ints, above, has)))

pub none_up_to : (low high number other : ℤ) → ((low ≤ℤ number) × (number ≤ℤ high) → ⊥) → pos 0 ≤ℤ high → number <ℤ pos 0 → low ≤ℤ other →
    int_le other number ≡ false
none_up_to low high number other absent top neg has =
    let below = below_first low high number absent (omega (arith, ints, top, neg)) in
    le_false other number (omega (arith, ints, below, has))

-- from a number to itself is that number
pub equal_within : (x v : ℤ) → int_eq x v ≡ is_within v v x
equal_within x v = sym (by (int_eq x v) refl)
  where
    apart : int_eq x v ≡ false → (s t : Bool) → int_le v x ≡ s → int_le x v ≡ t → (s && t) ≡ false
    apart p true true q r = let e : x ≡ v = omega (arith, ints, q, r) in absurd (false≢true (sym p ∙ (Decides-int_eq x v).1 e))
    apart p true false q r = refl
    apart p false t q r = refl

    by : (r : Bool) → int_eq x v ≡ r → is_within v v x ≡ r
    by true p =
        let e : x ≡ v = (Decides-int_eq x v).0 p in
        ap (λ b. b && int_le x v) (le_true v x (omega (arith, ints, e))) ∙ le_true x v (omega (arith, ints, e))
    by false p = apart p (int_le v x) (int_le x v) refl refl
