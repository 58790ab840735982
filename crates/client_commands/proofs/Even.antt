-- Parts of a whole that are as even as whole numbers are.
use native.Mathlib.Omega.{arith}
use Rattle.std.proofs.Common.{◌≡◌, ◌<◌, ◌≤◌, ◌⊎◌, inl, inr, ℕ, zero, suc, ◌+◌, ◌-◌, ◌*◌, ◌/◌, subst}
use Rattle.std.proofs.Math.Nat.{add-mul, mul-add, mul-le-mul_right, div-mul-le_self, lt-div-mul-add, div-le_self}
use Rattle.client_commands.specs.ParallelFetch.{IsEvenPart}
use Rattle.client_commands.specs.inside.Turns.{IsLeft}

-- after a front that has so many parts stands one part more: the quotient, rounded down
abbrev pub IsCut : (front part many : ℕ) → Type 0
IsCut front part many = (part * (many + 1) ≤ front + part) × (front + part < (part + 1) * (many + 1))

pub cut_off : (whole many part front : ℕ) → part ≡ whole / (many + 1) → front ≡ whole - part → IsCut front part many
cut_off whole many part front quotient rest =
    let some : 0 < many + 1 = omega arith in
    let all : front + part ≡ whole = omega (arith, div-le_self whole (many + 1), quotient, rest) in
    rw (all, quotient) (div-mul-le_self whole (many + 1), omega (arith, lt-div-mul-add {a = whole} {b = many + 1} some, add-mul (whole / (many + 1)) 1 (many + 1)))

less_or : (a b : ℕ) → (a < b) ⊎ (b ≤ a)
less_or a zero = inr (omega arith)
less_or zero (suc b) = inl (omega arith)
less_or (suc a) (suc b) = further (less_or a b)
  where
    further : (a < b) ⊎ (b ≤ a) → (suc a < suc b) ⊎ (suc b ≤ suc a)
    further (inl less) = inl (omega (arith, less))
    further (inr more) = inr (omega (arith, more))

-- a part of the front is no less than the part after it
no_fewer : (front part many other : ℕ) → part * many ≤ front → front < (other + 1) * many → part ≤ other
no_fewer front part many other low high = by (less_or other part)
  where
    by : (other < part) ⊎ (part ≤ other) → part ≤ other
    by (inr fine) = fine
    by (inl less) =
        let more : other + 1 ≤ part = omega (arith, less) in
        absurd (omega (arith, mul-le-mul_right many more, low, high))

-- and has at most one more
no_more : (front part many other : ℕ) → front ≤ (part + 1) * many → other * many < front + many → other ≤ part + 1
no_more front part many other high low = by (less_or (part + 1) other)
  where
    by : (part + 1 < other) ⊎ (other ≤ part + 1) → other ≤ part + 1
    by (inr fine) = fine
    by (inl less) =
        let more : part + 1 + 1 ≤ other = omega (arith, less) in
        absurd (omega (arith, mul-le-mul_right many more, add-mul (part + 1) 1 many, high, low))

-- a part of the front is one of the whole
pub front_part : (front part many other : ℕ) → IsCut front part many → IsEvenPart front many other → IsEvenPart (front + part) (many + 1) other
front_part front part many other cut even =
    let l : part * many ≤ front = omega (arith, mul-add part many 1, cut.0) in
    let h : front ≤ (part + 1) * many = omega (arith, mul-add (part + 1) many 1, cut.1) in
    let a : part ≤ other = no_fewer front part many other l even.0 in
    let b : other ≤ part + 1 = no_more front part many other h even.1 in
    (omega (arith, mul-add (other + 1) many 1, even.0, a), by (less_or part other) b)
  where
    by : (part < other) ⊎ (other ≤ part) → other ≤ part + 1 → other * (many + 1) < front + part + (many + 1)
    by (inr same) b = omega (arith, mul-add other many 1, even.1, same)
    by (inl less) b = omega (arith, mul-add other many 1, mul-add part many 1, even.1, less, b, cut.0)

-- and the part after it is one
pub last_part : (front part many : ℕ) → IsCut front part many → IsEvenPart (front + part) (many + 1) part
last_part front part many cut = (cut.1, omega (arith, cut.0))

-- ---- parts that are cut off the front

-- so much is left of a whole
pub all_left : (whole many : ℕ) → many ≤ whole → 0 < many → IsLeft whole many whole many
all_left whole many fits some = record { even = λ part even. even; enough = fits; none = λ none. absurd (omega (arith, some, none)) }

-- and after one part more
module _ (whole many rest others part after : ℕ) (left : IsLeft whole many rest (others + 1)) (is : part ≡ rest / (others + 1)) (cut : part + after ≡ rest) where
  behind_part : IsCut after part others
  behind_part = cut_off rest others part after is (omega (arith, cut))

  pub part_even : IsEvenPart whole many part
  part_even = left.even part (subst (λ (n : ℕ). IsEvenPart n (others + 1) part) (omega (arith, cut)) (last_part after part others behind_part))

  some_part : 1 ≤ part
  some_part = by (less_or part 1)
    where
      by : (part < 1) ⊎ (1 ≤ part) → 1 ≤ part
      by (inr fine) = fine
      by (inl none) =
          let zero_is : part ≡ 0 = omega (arith, none) in
          let cut_at : after + part < (part + 1) * (others + 1) = behind_part.1 in
          let less : after + 0 < (0 + 1) * (others + 1) = subst (λ (p : ℕ). after + p < (p + 1) * (others + 1)) zero_is cut_at in
          absurd (omega (arith, less, left.enough, cut, zero_is))

  pub part_left : IsLeft whole many after others
  part_left = record {
    even = λ other even. left.even other (subst (λ (n : ℕ). IsEvenPart n (others + 1) other) (omega (arith, cut)) (front_part after part others other behind_part even));
    enough =
        let low : part * (others + 1) ≤ after + part = behind_part.0 in
        let one : 1 * others ≤ part * others = mul-le-mul_right others some_part in
        omega (arith, low, one, mul-add part others 1);
    none = λ none.
        let high : after + part < (part + 1) * (others + 1) = behind_part.1 in
        let lone : after + part < (part + 1) * (0 + 1) = subst (λ (n : ℕ). after + part < (part + 1) * (n + 1)) none high in
        omega (arith, lone);
  }
