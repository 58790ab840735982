-- Numbers whose powers of two add up to those of the first numbers, and that are no more than these, are all different.
use Rattle.std.proofs.Common.{◌≡◌, ◌≢◌, ℕ, zero, suc, ◌+◌, ◌-◌, ◌*◌, ◌^◌, ◌≤◌, List, [], ◌∷◌, length, refl, arith, pow-suc}
use Rattle.version_cell.specs.SignedEntries.{powers}

-- a number is none of these
abbrev pub IsNone : ℕ → List ℕ → Type 0
IsNone number [] = Unit {0}
IsNone number (other ∷ numbers) = (other ≢ number) × IsNone number numbers

abbrev pub AreApart : List ℕ → Type 0
AreApart [] = Unit {0}
AreApart (number ∷ numbers) = IsNone number numbers × AreApart numbers

-- how many are 0
abbrev zeros : List ℕ → ℕ
zeros [] = 0
zeros (zero ∷ numbers) = suc (zeros numbers)
zeros (suc number ∷ numbers) = zeros numbers

-- the others, each less by one
abbrev lowered : List ℕ → List ℕ
lowered [] = []
lowered (zero ∷ numbers) = lowered numbers
lowered (suc number ∷ numbers) = number ∷ lowered numbers

powers_lowered : (numbers : List ℕ) → powers numbers ≡ zeros numbers + 2 * powers (lowered numbers)
powers_lowered [] = refl
powers_lowered (zero ∷ numbers) = omega (arith, powers_lowered numbers)
powers_lowered (suc number ∷ numbers) = omega (arith, powers_lowered numbers, pow-suc 2 number)

length_lowered : (numbers : List ℕ) → length numbers ≡ zeros numbers + length (lowered numbers)
length_lowered [] = refl
length_lowered (zero ∷ numbers) = omega (arith, length_lowered numbers)
length_lowered (suc number ∷ numbers) = omega (arith, length_lowered numbers)

-- with some ones next to them, they are as many as the power that is missed by one
no_fewer : (n : ℕ) (numbers : List ℕ) (ones : ℕ) → powers numbers + ones + 1 ≡ 2 ^ n → n ≤ length numbers + ones
no_fewer zero numbers ones sum = omega arith
no_fewer (suc n) numbers ones sum =
    let low = lowered numbers in
    let left : ℕ = 2 ^ n - (powers low + 1) in
    let some : powers low + left + 1 ≡ 2 ^ n = omega (arith, sum, powers_lowered numbers, pow-suc 2 n) in
    omega (arith, sum, some, powers_lowered numbers, length_lowered numbers, pow-suc 2 n, no_fewer n low left some)

none_zero : (numbers : List ℕ) → zeros numbers ≡ 0 → IsNone 0 numbers
none_zero [] none = tt
none_zero (zero ∷ numbers) none = absurd (omega (arith, none))
none_zero (suc number ∷ numbers) none = ((λ same. absurd (omega (arith, same))), none_zero numbers none)

none_raised : (number : ℕ) (numbers : List ℕ) → IsNone number (lowered numbers) → IsNone (suc number) numbers
none_raised number [] none = tt
none_raised number (zero ∷ numbers) none = ((λ same. absurd (omega (arith, same))), none_raised number numbers none)
none_raised number (suc other ∷ numbers) none = ((λ same. none.0 (omega (arith, same))), none_raised number numbers none.1)

apart_raised : (numbers : List ℕ) → zeros numbers ≤ 1 → AreApart (lowered numbers) → AreApart numbers
apart_raised [] few apart = tt
apart_raised (zero ∷ numbers) few apart = (none_zero numbers (omega (arith, few)), apart_raised numbers (omega (arith, few)) apart)
apart_raised (suc number ∷ numbers) few apart = (none_raised number numbers apart.0, apart_raised numbers few apart.1)

pub are_apart : (n : ℕ) (numbers : List ℕ) → powers numbers + 1 ≡ 2 ^ n → length numbers ≤ n → AreApart numbers
are_apart zero [] sum few = tt
are_apart zero (number ∷ numbers) sum few = absurd (omega (arith, few))
are_apart (suc n) numbers sum few =
    let low = lowered numbers in
    let left : ℕ = 2 ^ n - (powers low + 1) in
    let some : powers low + left + 1 ≡ 2 ^ n = omega (arith, sum, powers_lowered numbers, pow-suc 2 n) in
    let enough : n ≤ length low + left = no_fewer n low left some in
    let one : left ≡ 0 = omega (arith, sum, few, some, enough, powers_lowered numbers, length_lowered numbers, pow-suc 2 n) in
    apart_raised numbers (omega (arith, sum, some, one, powers_lowered numbers, pow-suc 2 n))
    (are_apart n low (omega (arith, some, one)) (omega (arith, few, sum, some, one, powers_lowered numbers, length_lowered numbers, pow-suc 2 n)))

-- the sum of the first powers
pub doubled : (n sum : ℕ) → sum + 1 ≡ 2 ^ n → sum + 2 ^ n + 1 ≡ 2 ^ (n + 1)
doubled n sum is =
    let next : n + 1 ≡ suc n = omega arith in
    rw next (omega (arith, is, pow-suc 2 n))
