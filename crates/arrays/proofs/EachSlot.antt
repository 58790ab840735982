-- A test of each slot, from the first on.
use Rattle.std.proofs.Common.{◌≡◌, ◌<◌, ◌≤◌, All, map, ℕ, zero, suc, ◌+◌, ◌-◌, Bool, true, false, ◌||◌, ◌⊎◌, refl, arith, inl, inr}
use Rattle.std.specs.List.{list_all, range_with_len}
use Rattle.std.proofs.lemmas.List.FromFn.{length-map-range_with_len, get_or-map-range_with_len}
use Rattle.std.proofs.lemmas.Bool.{cases_lt, and_parts}

-- what a disjunction says
pub one_holds : (a b : Bool) → (a || b) ≡ true → (a ≡ true) ⊎ (b ≡ true)
one_holds true b e = inl refl
one_holds false b e = inr e

-- with one slot tested, those after it are left
pub slots_more : (stands : ℕ → Bool) (place len : ℕ) → place < len → stands place ≡ true →
    list_all stands (range_with_len place (len - place)) ≡ list_all stands (range_with_len (place + 1) (len - (place + 1)))
slots_more stands place len lt e = let f : len - place ≡ suc (len - (place + 1)) = omega arith in rw (f, e) refl

-- where all pass, each does
pub slots_at : (stands : ℕ → Bool) (first len place : ℕ) → list_all stands (range_with_len first len) ≡ true → first ≤ place → place < first + len → stands place ≡ true
slots_at stands first zero place all low high = absurd (omega arith)
slots_at stands first (suc len) place all low high =
    let parts = and_parts (stands first) (list_all stands (range_with_len (first + 1) len)) all in
    elim (cases_lt first place) [
      | inl lt ↦ slots_at stands (first + 1) len place parts.1 (omega arith) (omega arith)
      | inr le ↦ let same : place ≡ first = omega arith in rw same parts.0
    ]

-- what holds of each slot holds of all values
pub all_slots : {X : Type 0} (P : X → Type 0) (slot : ℕ → X) (first len : ℕ) → ((place : ℕ) → first ≤ place → place < first + len → P (slot place)) →
    All P (map slot (range_with_len first len))
all_slots P slot first len each = λ k d low.
    let within : k < len = omega (arith, length-map-range_with_len slot first len) in
    rw (get_or-map-range_with_len slot first len k (first + k) d within (omega arith)) (each (first + k) (omega arith) (omega arith))

-- a test that each slot passes
pub all_pass : (stands : ℕ → Bool) (first len : ℕ) → ((place : ℕ) → first ≤ place → place < first + len → stands place ≡ true) → list_all stands (range_with_len first len) ≡ true
all_pass stands first zero each = refl
all_pass stands first (suc len) each = rw (each first (omega arith) (omega arith)) (all_pass stands (first + 1) len (λ place low high. each place (omega arith) (omega arith)))
