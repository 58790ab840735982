-- Conjuncts of a place, judged by a batch of it.
use Rattle.std.proofs.Common.{◌≡◌, ◌≤◌, ◌<◌, ℕ, zero, suc, ◌+◌, ◌-◌, ◌&&◌, ◌++◌, Bool, true, false, List, [], ◌∷◌, length, map, drop, get_or, cond, sym, ap, ◌∙◌, arith, append-nil}
use Rattle.std.specs.List.{filter, list_all, range_with_len}
use Rattle.std.proofs.lemmas.Bool.{and_parts}
use Rattle.std.proofs.lemmas.List.Elements.{filter-append}

-- each of a list passes, where all do
pub passes_at : {X : Type 0} (p : X → Bool) (xs : List X) (i : ℕ) (d x : X) → i < length xs → x ≡ get_or xs i d → list_all p xs ≡ true → p x ≡ true
passes_at p [] i d x h is all = absurd (omega (arith, h))
passes_at p (y ∷ ys) zero d x h is all = ap p is ∙ (and_parts (p y) (list_all p ys) all).0
passes_at p (y ∷ ys) (suc i) d x h is all = passes_at p ys i d x (omega (arith, h)) is (and_parts (p y) (list_all p ys) all).1

-- one more passes
pub all_next : {X Y : Type 0} (p : Y → Bool) (f : X → Y) (xs : List X) (i : ℕ) (d x : X) → i < length xs → x ≡ get_or xs i d → p (f x) ≡ true →
    list_all p (map f (drop (i + 1) xs)) ≡ list_all p (map f (drop i xs))
all_next p f [] i d x h is on = absurd (omega (arith, h))
all_next p f (y ∷ ys) zero d x h is on =
    let here : p (f y) ≡ true = ap (λ one. p (f one)) (sym is) ∙ on in
    sym (ap (λ (b : Bool). b && list_all p (map f ys)) here)
all_next p f (y ∷ ys) (suc i) d x h is on =
    let e : suc i + 1 ≡ suc (i + 1) = omega arith in
    ap (λ (n : ℕ). list_all p (map f (drop n (y ∷ ys)))) e ∙ all_next p f ys i d x (omega (arith, h)) is on

-- ---- the numbers that pass a test

range_more : (a n j : ℕ) → a + n ≡ j → range_with_len a (n + 1) ≡ range_with_len a n ++ j ∷ []
range_more a zero j e = let same : a ≡ j = omega (arith, e) in ap (λ number. number ∷ []) same
range_more a (suc n) j e =
    let later : suc n + 1 ≡ suc (n + 1) = omega arith in
    rw later (ap (λ rest. a ∷ rest) (range_more (a + 1) n j (omega (arith, e))))

module _ (test : ℕ → Bool) where
  more : (n : ℕ) → filter test (range_with_len 0 (n + 1)) ≡ filter test (range_with_len 0 n) ++ filter test (n ∷ [])
  more n = ap (filter test) (range_more 0 n n (omega arith)) ∙ filter-append test (range_with_len 0 n) (n ∷ [])

  -- one that passes stands after the others
  pub passes : (n : ℕ) → test n ≡ true → filter test (range_with_len 0 (n + 1)) ≡ filter test (range_with_len 0 n) ++ n ∷ []
  passes n on = more n ∙ ap (λ (b : Bool). filter test (range_with_len 0 n) ++ cond b (n ∷ []) []) on

  -- one that does not is left out
  pub fails : (n : ℕ) → test n ≡ false → filter test (range_with_len 0 (n + 1)) ≡ filter test (range_with_len 0 n)
  fails n off = more n ∙ ap (λ (b : Bool). filter test (range_with_len 0 n) ++ cond b (n ∷ []) []) off ∙ append-nil (filter test (range_with_len 0 n))

  behind : (n d : ℕ) → ((k : ℕ) → n ≤ k → k < n + d → test k ≡ false) → filter test (range_with_len 0 (n + d)) ≡ filter test (range_with_len 0 n)
  behind n zero none = let e : n + 0 ≡ n = omega arith in ap (λ (m : ℕ). filter test (range_with_len 0 m)) e
  behind n (suc d) none =
      let e : n + suc d ≡ n + d + 1 = omega arith in
      ap (λ (m : ℕ). filter test (range_with_len 0 m)) e ∙ fails (n + d) (none (n + d) (omega arith) (omega arith))
      ∙ behind n d (λ k low high. none k low (omega (arith, high)))

  -- nor are those after the last one that passes
  pub none_behind : (n m : ℕ) → n ≤ m → ((k : ℕ) → n ≤ k → k < m → test k ≡ false) → filter test (range_with_len 0 m) ≡ filter test (range_with_len 0 n)
  none_behind n m h none =
      let e : n + (m - n) ≡ m = omega (arith, h) in
      ap (λ (some : ℕ). filter test (range_with_len 0 some)) (sym e) ∙ behind n (m - n) (λ k low high. none k low (omega (arith, high, h)))

  -- nor those before the first
  pub none_before : (n : ℕ) → ((k : ℕ) → k < n → test k ≡ false) → filter test (range_with_len 0 n) ≡ []
  none_before n none = none_behind 0 n (omega arith) (λ k low high. none k high)
