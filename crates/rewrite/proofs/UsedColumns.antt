-- Used columns, and their numbers among those that are used.
use Rattle.std.proofs.Common.{◌≡◌, ◌<◌, ◌≤◌, ℕ, zero, suc, ◌+◌, Bool, true, false, cond, List, [], ◌∷◌, ◌++◌, length, map, take, drop, set, get_or, nat_lt, nat_le, slice_get, refl, sym, ap, ◌∙◌, arith, append_assoc}
use Rattle.std.specs.List.{list_all, range_with_len}
use Rattle.std.proofs.Math.Seq.{take-length}
use Rattle.std.proofs.lemmas.Bool.{and_parts, and_from, lt-ltb, le-ltb, le-leb, lt-leb, ltb-true, ltb-false}
use Rattle.rewrite.specs.PrunedColumns.{used_of, is_used, used_number}

-- how many are used
abbrev pub count : List Bool → ℕ
count [] = 0
count (true ∷ uses) = suc (count uses)
count (false ∷ uses) = count uses

pub used_within : (uses : List Bool) (n : ℕ) → is_used uses n ≡ true → n < length uses
used_within [] n e = cc
used_within (used ∷ uses) zero e = omega arith
used_within (used ∷ uses) (suc n) e = let h = used_within uses n e in omega (arith, h)

-- a mark past the end changes nothing
pub set_past : (uses : List Bool) (n : ℕ) → length uses ≤ n → set uses n true ≡ uses
set_past [] n h = refl
set_past (used ∷ uses) zero h = absurd (omega (arith, h))
set_past (used ∷ uses) (suc n) h = ap (λ some. used ∷ some) (set_past uses n (omega (arith, h)))

pub used_of_left : (left right : List Bool) (n : ℕ) → n < length left → is_used (left ++ right) n ≡ is_used left n
used_of_left [] right n h = absurd (omega (arith, h))
used_of_left (used ∷ left) right zero h = refl
used_of_left (used ∷ left) right (suc n) h = used_of_left left right n (omega (arith, h))

pub used_of_right : (left right : List Bool) (n m : ℕ) → m ≡ length left + n → is_used (left ++ right) m ≡ is_used right n
used_of_right [] right n m e = ap (is_used right) (omega (arith, e))
used_of_right (used ∷ left) right n zero e = absurd (omega (arith, e))
used_of_right (used ∷ left) right n (suc m) e = used_of_right left right n m (omega (arith, e))

pub used_take : (uses : List Bool) (k n : ℕ) → n < k → is_used (take k uses) n ≡ is_used uses n
used_take uses zero n h = absurd (omega (arith, h))
used_take [] (suc k) n h = refl
used_take (used ∷ uses) (suc k) zero h = refl
used_take (used ∷ uses) (suc k) (suc n) h = used_take uses k n (omega (arith, h))

pub used_drop : (uses : List Bool) (k n m : ℕ) → m ≡ k + n → is_used (drop k uses) n ≡ is_used uses m
used_drop uses zero n m e = ap (is_used uses) (omega (arith, e))
used_drop [] (suc k) n m e = refl
used_drop (used ∷ uses) (suc k) n zero e = absurd (omega (arith, e))
used_drop (used ∷ uses) (suc k) n (suc m) e = used_drop uses k n m (omega (arith, e))

-- ---- numbers among those that are used

pub number_take : (uses : List Bool) (k n : ℕ) → n < k → used_number (take k uses) n ≡ used_number uses n
number_take uses zero n h = absurd (omega (arith, h))
number_take [] (suc k) n h = refl
number_take (used ∷ uses) (suc k) zero h = refl
number_take (true ∷ uses) (suc k) (suc n) h = ap suc (number_take uses k n (omega (arith, h)))
number_take (false ∷ uses) (suc k) (suc n) h = number_take uses k n (omega (arith, h))

pub number_drop : (uses : List Bool) (k n m : ℕ) → m ≡ k + n → used_number uses m ≡ count (take k uses) + used_number (drop k uses) n
number_drop uses zero n m e = let h : used_number uses m ≡ used_number uses n = ap (used_number uses) (omega (arith, e)) in omega (arith, h)
number_drop [] (suc k) n m e = omega arith
number_drop (used ∷ uses) (suc k) n zero e = absurd (omega (arith, e))
number_drop (true ∷ uses) (suc k) n (suc m) e = let h = number_drop uses k n m (omega (arith, e)) in omega (arith, h)
number_drop (false ∷ uses) (suc k) n (suc m) e = number_drop uses k n m (omega (arith, e))

-- a used column stands before a place exactly where its number does
number_before : (uses : List Bool) (k n : ℕ) → is_used uses n ≡ true → n < k → used_number uses n < count (take k uses)
number_before uses zero n e h = absurd (omega (arith, h))
number_before [] (suc k) n e h = cc
number_before (true ∷ uses) (suc k) zero e h = omega arith
number_before (false ∷ uses) (suc k) zero e h = cc
number_before (true ∷ uses) (suc k) (suc n) e h = let i = number_before uses k n e (omega (arith, h)) in omega (arith, i)
number_before (false ∷ uses) (suc k) (suc n) e h = number_before uses k n e (omega (arith, h))

number_behind : (uses : List Bool) (k n : ℕ) → k ≤ n → count (take k uses) ≤ used_number uses n
number_behind uses zero n h = omega arith
number_behind [] (suc k) n h = omega arith
number_behind (used ∷ uses) (suc k) zero h = absurd (omega (arith, h))
number_behind (true ∷ uses) (suc k) (suc n) h = let i = number_behind uses k n (omega (arith, h)) in omega (arith, i)
number_behind (false ∷ uses) (suc k) (suc n) h = number_behind uses k n (omega (arith, h))

pub number_lt : (uses : List Bool) (k n : ℕ) → is_used uses n ≡ true → nat_lt (used_number uses n) (count (take k uses)) ≡ nat_lt n k
number_lt uses k n e = by (nat_lt n k) refl
  where
    by : (b : Bool) → nat_lt n k ≡ b → nat_lt (used_number uses n) (count (take k uses)) ≡ b
    by true h = lt-ltb (used_number uses n) (count (take k uses)) (number_before uses k n e (ltb-true n k h))
    by false h = le-ltb (used_number uses n) (count (take k uses)) (number_behind uses k n (ltb-false n k h))

-- so it is below how many there are
pub number_there : (uses : List Bool) (n : ℕ) → is_used uses n ≡ true → nat_lt (used_number uses n) (count uses) ≡ true
number_there uses n e =
    ap (λ some. nat_lt (used_number uses n) (count some)) (sym (take-length uses))
    ∙ number_lt uses (length uses) n e ∙ lt-ltb n (length uses) (used_within uses n e)

-- and after it
pub number_le : (uses : List Bool) (k n : ℕ) → is_used uses n ≡ true → nat_le (count (take k uses)) (used_number uses n) ≡ nat_le k n
number_le uses k n e = by (nat_lt n k) refl
  where
    by : (b : Bool) → nat_lt n k ≡ b → nat_le (count (take k uses)) (used_number uses n) ≡ nat_le k n
    by true h =
        let l = ltb-true n k h in
        lt-leb (count (take k uses)) (used_number uses n) (number_before uses k n e l) ∙ sym (lt-leb k n l)
    by false h =
        let l = ltb-false n k h in
        le-leb (count (take k uses)) (used_number uses n) (number_behind uses k n l) ∙ sym (le-leb k n l)

pub number_zero : (uses : List Bool) → used_number uses 0 ≡ 0
number_zero [] = refl
number_zero (used ∷ uses) = refl

-- one column further
pub number_next : (uses : List Bool) (n : ℕ) → n < length uses → (used unknown : Bool) → used ≡ get_or uses n unknown →
    used_number uses (n + 1) ≡ used_number uses n + count (used ∷ [])
number_next [] n h used unknown e = absurd (omega (arith, h))
number_next (true ∷ uses) zero h true unknown e = ap suc (number_zero uses)
number_next (true ∷ uses) zero h false unknown e = cc
number_next (false ∷ uses) zero h true unknown e = cc
number_next (false ∷ uses) zero h false unknown e = number_zero uses
number_next (true ∷ uses) (suc n) h used unknown e =
    let i = number_next uses n (omega (arith, h)) used unknown e in
    let s : suc n + 1 ≡ suc (n + 1) = omega arith in
    ap (used_number (true ∷ uses)) s ∙ ap suc i ∙ omega arith
number_next (false ∷ uses) (suc n) h used unknown e =
    let i = number_next uses n (omega (arith, h)) used unknown e in
    let s : suc n + 1 ≡ suc (n + 1) = omega arith in
    ap (used_number (false ∷ uses)) s ∙ i

-- the numbers of columns so far, and one more
front_of : (xs : List ℕ) (x k : ℕ) → k < length xs → get_or (xs ++ x ∷ []) k 0 ≡ get_or xs k 0
front_of [] x k h = absurd (omega (arith, h))
front_of (y ∷ xs) x zero h = refl
front_of (y ∷ xs) x (suc k) h = front_of xs x k (omega (arith, h))

last_of : (xs : List ℕ) (x k : ℕ) → k ≡ length xs → get_or (xs ++ x ∷ []) k 0 ≡ x
last_of [] x zero h = refl
last_of [] x (suc k) h = absurd (omega (arith, h))
last_of (y ∷ xs) x zero h = absurd (omega (arith, h))
last_of (y ∷ xs) x (suc k) h = last_of xs x k (omega (arith, h))

pub counted_more : (numbers new : List ℕ) (uses : List Bool) (i before : ℕ) → length numbers ≡ i → new ≡ numbers ++ before ∷ [] → before ≡ used_number uses i →
    ((k : ℕ) → k < i → get_or numbers k 0 ≡ used_number uses k) → (k : ℕ) → k < i + 1 → get_or new k 0 ≡ used_number uses k
counted_more numbers new uses i before long is e counts k h = by (nat_lt k i) refl
  where
    by : (b : Bool) → nat_lt k i ≡ b → get_or new k 0 ≡ used_number uses k
    by true t =
        let l = ltb-true k i t in
        ap (λ (some : List ℕ). get_or some k 0) is ∙ front_of numbers before k (omega (arith, l, long)) ∙ counts k l
    by false t =
        let l = ltb-false k i t in
        let s : k ≡ i = omega (arith, l, h) in
        ap (λ (some : List ℕ). get_or some k 0) is ∙ last_of numbers before k (omega (arith, s, long)) ∙ e ∙ ap (used_number uses) (sym s)

pub range_more : (a n j : ℕ) → a + n ≡ j → range_with_len a (n + 1) ≡ range_with_len a n ++ j ∷ []
range_more a zero j e = let same : a ≡ j = omega (arith, e) in ap (λ number. number ∷ []) same
range_more a (suc n) j e =
    let later : suc n + 1 ≡ suc (n + 1) = omega arith in
    rw later (ap (λ rest. a ∷ rest) (range_more (a + 1) n j (omega (arith, e))))

-- ---- used items of a list

pub kept-map : {X Y : Type 0} (f : X → Y) (uses : List Bool) (xs : List X) → map f (used_of uses xs) ≡ used_of uses (map f xs)
kept-map f [] xs = refl
kept-map f (used ∷ uses) [] = refl
kept-map f (true ∷ uses) (x ∷ xs) = ap (λ ys. f x ∷ ys) (kept-map f uses xs)
kept-map f (false ∷ uses) (x ∷ xs) = kept-map f uses xs

pub kept-append : {X : Type 0} (uses : List Bool) (left right : List X) →
    used_of (take (length left) uses) left ++ used_of (drop (length left) uses) right ≡ used_of uses (left ++ right)
kept-append [] [] right = refl
kept-append [] (x ∷ left) right = refl
kept-append (used ∷ uses) [] right = refl
kept-append (true ∷ uses) (x ∷ left) right = ap (λ xs. x ∷ xs) (kept-append uses left right)
kept-append (false ∷ uses) (x ∷ left) right = kept-append uses left right

pub kept_width : {X : Type 0} (uses : List Bool) (xs : List X) → length xs ≡ length uses → length (used_of uses xs) ≡ count uses
kept_width [] xs h = refl
kept_width (used ∷ uses) [] h = absurd (omega (arith, h))
kept_width (true ∷ uses) (x ∷ xs) h = ap suc (kept_width uses xs (omega (arith, h)))
kept_width (false ∷ uses) (x ∷ xs) h = kept_width uses xs (omega (arith, h))

-- a used item stands at its number among those that are used
pub kept_at : {X : Type 0} (uses : List Bool) (xs : List X) (n : ℕ) → length xs ≡ length uses → is_used uses n ≡ true →
    slice_get (used_of uses xs) (used_number uses n) ≡ slice_get xs n
kept_at [] xs n h e = cc
kept_at (used ∷ uses) [] n h e = absurd (omega (arith, h))
kept_at (true ∷ uses) (x ∷ xs) zero h e = refl
kept_at (false ∷ uses) (x ∷ xs) zero h e = cc
kept_at (true ∷ uses) (x ∷ xs) (suc n) h e = kept_at uses xs n (omega (arith, h)) e
kept_at (false ∷ uses) (x ∷ xs) (suc n) h e = kept_at uses xs n (omega (arith, h)) e

pub kept_pass : {X : Type 0} (test : X → Bool) (uses : List Bool) (xs : List X) → list_all test xs ≡ true → list_all test (used_of uses xs) ≡ true
kept_pass test [] xs h = refl
kept_pass test (used ∷ uses) [] h = refl
kept_pass test (true ∷ uses) (x ∷ xs) h =
    let parts = and_parts (test x) (list_all test xs) h in
    and_from (test x) (list_all test (used_of uses xs)) parts.0 (kept_pass test uses xs parts.1)
kept_pass test (false ∷ uses) (x ∷ xs) h = kept_pass test uses xs (and_parts (test x) (list_all test xs) h).1

-- one item further
kept_next : {X : Type 0} (uses : List Bool) (xs : List X) (i : ℕ) (x unknown : X) → i < length uses → i < length xs → x ≡ get_or xs i unknown →
    used_of (drop i uses) (drop i xs) ≡ cond (get_or uses i false) (x ∷ used_of (drop (i + 1) uses) (drop (i + 1) xs)) (used_of (drop (i + 1) uses) (drop (i + 1) xs))
kept_next [] xs i x unknown h k e = absurd (omega (arith, h))
kept_next (used ∷ uses) [] i x unknown h k e = absurd (omega (arith, k))
kept_next (true ∷ uses) (y ∷ xs) zero x unknown h k e = ap (λ z. z ∷ used_of uses xs) (sym e)
kept_next (false ∷ uses) (y ∷ xs) zero x unknown h k e = refl
kept_next (used ∷ uses) (y ∷ xs) (suc i) x unknown h k e =
    let s : suc i + 1 ≡ suc (i + 1) = omega arith in
    kept_next uses xs i x unknown (omega (arith, h)) (omega (arith, k)) e
    ∙ ap (λ n. cond (get_or uses i false) (x ∷ used_of (drop n (used ∷ uses)) (drop n (y ∷ xs))) (used_of (drop n (used ∷ uses)) (drop n (y ∷ xs)))) (sym s)

-- a number that is used is kept, and one that is not is left out
pub kept_more : (uses : List Bool) (numbers : List ℕ) (i : ℕ) (made new whole : List ℕ) → length numbers ≡ length uses → i < length numbers →
    get_or uses i false ≡ true → new ≡ made ++ get_or numbers i 0 ∷ [] → made ++ used_of (drop i uses) (drop i numbers) ≡ whole →
    new ++ used_of (drop (i + 1) uses) (drop (i + 1) numbers) ≡ whole
kept_more uses numbers i made new whole wide within used is e =
    let x = get_or numbers i 0 in
    let more = used_of (drop (i + 1) uses) (drop (i + 1) numbers) in
    ap (λ (some : List ℕ). some ++ more) is ∙ append_assoc made (x ∷ []) more
    ∙ ap (λ (some : List ℕ). made ++ some) (sym (kept_next uses numbers i x 0 (omega (arith, wide, within)) within refl ∙ ap (λ b. cond b (x ∷ more) more) used))
    ∙ e

pub left_out : (uses : List Bool) (numbers : List ℕ) (i : ℕ) (made new whole : List ℕ) → length numbers ≡ length uses → i < length numbers →
    get_or uses i false ≡ false → new ≡ made → made ++ used_of (drop i uses) (drop i numbers) ≡ whole →
    new ++ used_of (drop (i + 1) uses) (drop (i + 1) numbers) ≡ whole
left_out uses numbers i made new whole wide within used is e =
    let x = get_or numbers i 0 in
    let more = used_of (drop (i + 1) uses) (drop (i + 1) numbers) in
    ap (λ (some : List ℕ). some ++ more) is
    ∙ ap (λ (some : List ℕ). made ++ some) (sym (kept_next uses numbers i x 0 (omega (arith, wide, within)) within refl ∙ ap (λ b. cond b (x ∷ more) more) used))
    ∙ e

-- where all are used, all are kept
pub kept_whole : {X : Type 0} (uses : List Bool) (xs : List X) → length xs ≡ length uses → list_all (λ used. used) uses ≡ true → used_of uses xs ≡ xs
kept_whole [] [] h e = refl
kept_whole [] (x ∷ xs) h e = absurd (omega (arith, h))
kept_whole (used ∷ uses) [] h e = refl
kept_whole (true ∷ uses) (x ∷ xs) h e = ap (λ ys. x ∷ ys) (kept_whole uses xs (omega (arith, h)) e)
kept_whole (false ∷ uses) (x ∷ xs) h e = cc

-- the used column of a number among those that are used
pub used_of_number : (uses : List Bool) (n : ℕ) → n < count uses → (m : ℕ) × (is_used uses m ≡ true) × (used_number uses m ≡ n)
used_of_number [] n h = absurd (omega (arith, h))
used_of_number (true ∷ uses) zero h = (0, refl, refl)
used_of_number (true ∷ uses) (suc n) h =
    let found = used_of_number uses n (omega (arith, h)) in (suc found.0, found.1, ap suc found.2)
used_of_number (false ∷ uses) n h =
    let found = used_of_number uses n h in (suc found.0, found.1, found.2)
