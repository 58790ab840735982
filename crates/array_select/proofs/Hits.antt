-- The places of a word's bits: the lowest comes first, they rise, and they are those that pass the test.
use Rattle.std.proofs.Common.{◌≡◌, ℕ, zero, suc, ◌+◌, ◌-◌, ◌*◌, ◌/◌, ◌%◌, ◌^◌, ◌<◌, ◌≤◌, min, Bool, true, false, cond, ◌==◌, List, [], ◌∷◌, ◌++◌, ◌⊎◌, inl, inr, if◌then◌else◌, length, get_or, All, refl, subst, sym, ap, ap₂, ◌∙◌, arith, mod-lt, zero-lt-suc, pow-suc, add-zero}
use Rattle.std.specs.Int.{bit_at}
use Rattle.std.specs.List.{filter, range_with_len}
use Rattle.std.proofs.lemmas.Nat.Bits.{bit_at_lowest, bit_at-suc}
use Rattle.std.proofs.lemmas.Bool.{cases_lt}
use Rattle.std.proofs.lemmas.List.{append_assoc, get_or_append_left, get_or-append_right, length-append}
use Rattle.std.proofs.lemmas.List.FromFn.{get_or-range_with_len, length-range_with_len}
use Rattle.std.proofs.lemmas.List.Elements.{All-cons, All-nil}
use lib.Bits.{bit_and, and_step, and_self}
use lib.Count.{count_trailing_zeros, under}
use Rattle.array_select.specs.Selection.{AreRising}
use Rattle.array_select.specs.SetBits.{set_bits}

bit_cases : (P : ℕ → Type 0) → P 0 → P 1 → (x : ℕ) → x < 2 → P x
bit_cases P p q zero h = p
bit_cases P p q (suc zero) h = q
bit_cases P p q (suc (suc r)) h = absurd (omega arith)

pub set_bits-zero : (k b : ℕ) → set_bits k b 0 ≡ []
unfolding set_bits
set_bits-zero zero b = refl
set_bits-zero (suc k) b = set_bits-zero k (b + 1)

abbrev turn : ℕ → ℕ → ℕ → ℕ → List ℕ
turn k b r t = cond (r == 1) (b ∷ set_bits k (b + 1) t) (set_bits k (b + 1) t)

abbrev Goal : ℕ → ℕ → ℕ → Type 0
Goal k b x = turn k b (x % 2) (x / 2) ≡ (b + under (x % 2) (count_trailing_zeros k (x / 2))) ∷ turn k b (bit_and x (x - 1) % 2) (bit_and x (x - 1) / 2)

pub lowest : (k b x : ℕ) → 0 < x → x < 2 ^ k → set_bits k b x ≡ (b + count_trailing_zeros k x) ∷ set_bits k b (bit_and x (x - 1))
unfolding set_bits count_trailing_zeros
lowest zero b x pos h = let no : ⊥ = omega arith in absurd no
lowest (suc k) b x pos h = bit_cases (λ r. x % 2 ≡ r → Goal k b x) (even (λ p. lowest k (b + 1) (x / 2) p (omega (arith, pow-suc 2 k)))) odd (x % 2) (mod-lt x (zero-lt-suc 1)) refl
  where
    odd : x % 2 ≡ 1 → Goal k b x
    odd e =
        let y = bit_and x (x - 1) in
        let half : (x - 1) / 2 ≡ x / 2 = omega arith in
        let low : min (x % 2) ((x - 1) % 2) ≡ 0 = omega arith in
        let is : y ≡ x / 2 * 2 + 0 = and_step x (x - 1) ∙ ap₂ (λ u v. u * 2 + v) (ap (bit_and (x / 2)) half ∙ and_self (x / 2)) low in
        let p : y % 2 ≡ 0 = omega arith in
        let q : y / 2 ≡ x / 2 = omega arith in
        ap (λ r. turn k b r (x / 2)) e ∙ ap₂ (λ u v. u ∷ v) (sym (ap (λ r. b + under r (count_trailing_zeros k (x / 2))) e ∙ add-zero b)) (sym (ap₂ (turn k b) p q))

    even : (0 < x / 2 → set_bits k (b + 1) (x / 2) ≡ (b + 1 + count_trailing_zeros k (x / 2)) ∷ set_bits k (b + 1) (bit_and (x / 2) (x / 2 - 1))) → x % 2 ≡ 0 → Goal k b x
    even below e =
        let y = bit_and x (x - 1) in
        let half : (x - 1) / 2 ≡ x / 2 - 1 = omega arith in
        let low : min (x % 2) ((x - 1) % 2) ≡ 0 = omega arith in
        let z = bit_and (x / 2) (x / 2 - 1) in
        let is : y ≡ z * 2 + 0 = and_step x (x - 1) ∙ ap₂ (λ u v. u * 2 + v) (ap (bit_and (x / 2)) half) low in
        let p : y % 2 ≡ 0 = omega arith in
        let q : y / 2 ≡ z = omega arith in
        let t = count_trailing_zeros k (x / 2) in
        let place : b + 1 + t ≡ b + suc t = omega arith in
        ap (λ r. turn k b r (x / 2)) e ∙ below (omega arith)
        ∙ ap₂ (λ u v. u ∷ v) (place ∙ sym (ap (λ r. b + under r t) e)) (sym (ap₂ (turn k b) p q))

-- ---- they rise

-- a place among them is not below the first, and above those before it
pub rising_bits : (k b x : ℕ) (more : List ℕ) (place : ℕ) (rest : List ℕ) → more ++ place ∷ rest ≡ set_bits k b x → (b ≤ place) × All (λ (p : ℕ). p < place) more
unfolding set_bits
rising_bits zero b x [] place rest e = absurd (let no : ⊥ = cc in no)
rising_bits zero b x (m ∷ more) place rest e = absurd (let no : ⊥ = cc in no)
rising_bits (suc k) b x more place rest e =
    by (x % 2 == 1) (λ some same. rising_bits k (b + 1) (x / 2) some place rest same) more e
  where
    by : (t : Bool) → ((some : List ℕ) → some ++ place ∷ rest ≡ set_bits k (b + 1) (x / 2) → (b + 1 ≤ place) × All (λ (p : ℕ). p < place) some) → (more : List ℕ) →
        more ++ place ∷ rest ≡ cond t (b ∷ set_bits k (b + 1) (x / 2)) (set_bits k (b + 1) (x / 2)) → (b ≤ place) × All (λ (p : ℕ). p < place) more
    by false later more e = let had = later more e in (omega (arith, had.0), had.1)
    by true later [] e = let same : place ≡ b = cc in (omega (arith, same), All-nil (λ (p : ℕ). p < place))
    by true later (m ∷ more) e =
        let same : m ≡ b = cc in
        let rest_same : more ++ place ∷ rest ≡ set_bits k (b + 1) (x / 2) = cc in
        let had = later more rest_same in
        (omega (arith, had.0), All-cons (λ (p : ℕ). p < place) m more (omega (arith, same, had.0)) had.1)

all_up : (xs : List ℕ) (a c : ℕ) → a ≤ c → All (λ (p : ℕ). p < a) xs → All (λ (p : ℕ). p < c) xs
all_up xs a c le h = λ k d lt. omega (arith, h k d lt, le)

both_below : (xs ys : List ℕ) (a : ℕ) → All (λ (p : ℕ). p < a) xs → All (λ (p : ℕ). p < a) ys → All (λ (p : ℕ). p < a) (xs ++ ys)
both_below [] ys a h g = g
both_below (x ∷ xs) ys a h g =
    All-cons (λ (p : ℕ). p < a) x (xs ++ ys) (h 0 0 (omega arith)) (both_below xs ys a (λ k d lt. h (suc k) d (omega (arith, lt))) g)

-- the places so far are below the lowest that is left
pub pushed_below : (b x left : ℕ) (old more places : List ℕ) → 0 < left → left < 2 ^ 64 → All (λ (p : ℕ). p < b) old → places ≡ old ++ more →
    more ++ set_bits 64 b left ≡ set_bits 64 b x → All (λ (p : ℕ). p < b + count_trailing_zeros 64 left) places
pushed_below b x left old more places some fits low is split =
    let place = b + count_trailing_zeros 64 left in
    let had = rising_bits 64 b x more place (set_bits 64 b (bit_and left (left - 1))) (ap (λ l. more ++ l) (sym (lowest 64 b left some fits)) ∙ split) in
    rw is (both_below old more place (all_up old b place had.0 low) had.1)

-- one place more
pub pushed_more : (b x left : ℕ) (more : List ℕ) → 0 < left → left < 2 ^ 64 → more ++ set_bits 64 b left ≡ set_bits 64 b x →
    (more ++ (b + count_trailing_zeros 64 left) ∷ []) ++ set_bits 64 b (bit_and left (left - 1)) ≡ set_bits 64 b x
pushed_more b x left more some fits split =
    append_assoc more ((b + count_trailing_zeros 64 left) ∷ []) (set_bits 64 b (bit_and left (left - 1)))
    ∙ ap (λ l. more ++ l) (sym (lowest 64 b left some fits)) ∙ split

-- those that pass a test
pub bits_kept : (p : ℕ → Bool) (k b x : ℕ) → ((i : ℕ) → i < k → (bit_at x i == 1) ≡ p (b + i)) → set_bits k b x ≡ filter p (range_with_len b k)
unfolding set_bits
bits_kept p zero b x h = refl
bits_kept p (suc k) b x h =
    let first : (x % 2 == 1) ≡ p b = ap (λ n. n == 1) (sym (bit_at_lowest x)) ∙ h 0 (omega arith) ∙ ap p (add-zero b) in
    let rest = bits_kept p k (b + 1) (x / 2) (λ i lt. ap (λ n. n == 1) (sym (bit_at-suc x i)) ∙ h (suc i) (omega arith) ∙ ap p (omega arith)) in
    ap₂ (λ t l. cond t (b ∷ l) l) first rest

-- ---- places next to each other

power_some : (k : ℕ) → 0 < 2 ^ k
power_some zero = omega arith
power_some (suc k) = omega (arith, pow-suc 2 k, power_some k)

-- where all bits are 1 the places stand next to each other
pub all_bits : (k b : ℕ) → set_bits k b (2 ^ k - 1) ≡ range_with_len b k
unfolding set_bits
all_bits zero b = refl
all_bits (suc k) b =
    let odd : (2 ^ suc k - 1) % 2 ≡ 1 = omega (arith, pow-suc 2 k, power_some k) in
    let rest : (2 ^ suc k - 1) / 2 ≡ 2 ^ k - 1 = omega (arith, pow-suc 2 k, power_some k) in
    ap₂ (turn k b) odd rest ∙ ap (λ (l : List ℕ). b ∷ l) (all_bits k (b + 1))

-- after smaller ones they rise
pub run_rises : (old : List ℕ) (b n : ℕ) → All (λ (p : ℕ). p < b) old → AreRising old → AreRising (old ++ range_with_len b n)
run_rises old b n below rises = λ k j low within. by k j low (omega (arith, within, whole)) (cases_lt k (length old)) (cases_lt j (length old))
  where
    whole : length (old ++ range_with_len b n) ≡ length old + n
    whole = length-append old (range_with_len b n) ∙ ap (λ (m : ℕ). length old + m) (length-range_with_len b n)

    in_old : (k : ℕ) → k < length old → get_or (old ++ range_with_len b n) k 0 ≡ get_or old k 0
    in_old k there = get_or_append_left old (range_with_len b n) 0 k there

    in_run : (k : ℕ) → length old ≤ k → k < length old + n → get_or (old ++ range_with_len b n) k 0 ≡ b + (k - length old)
    in_run k behind there =
        get_or-append_right old (range_with_len b n) (length old) k 0 refl behind
        ∙ get_or-range_with_len b n (k - length old) 0 (omega (arith, behind, there))

    by : (k j : ℕ) → k < j → j < length old + n → (k < length old) ⊎ (length old ≤ k) → (j < length old) ⊎ (length old ≤ j) →
        get_or (old ++ range_with_len b n) k 0 < get_or (old ++ range_with_len b n) j 0
    by k j low there (inl first) (inl second) = omega (arith, in_old k first, in_old j second, rises k j low second)
    by k j low there (inl first) (inr second) = omega (arith, in_old k first, in_run j second there, below k 0 first)
    by k j low there (inr first) (inl second) = absurd (omega (arith, low, first, second))
    by k j low there (inr first) (inr second) = omega (arith, in_run k first (omega (arith, low, there)), in_run j second there, low, first)

-- whether they were added or not
pub still_rising : (added : Bool) (old new more : List ℕ) → new ≡ (if added then old ++ more else old) → AreRising old → AreRising (old ++ more) → AreRising new
still_rising true old new more is before rises = subst AreRising (sym is) rises
still_rising false old new more is before rises = subst AreRising (sym is) before
