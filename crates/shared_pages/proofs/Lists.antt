-- What stands at a place of a list.
use Rattle.std.proofs.Common.{◌≡◌, ℕ, zero, suc, ◌+◌, ◌-◌, ◌<◌, Bool, true, List, [], ◌∷◌, ◌++◌, length, take, drop, Some, Result, Ok, Err, IfOk, refl, sym, ap, ◌∙◌, arith, slice_get, get_or, map, option_map}
use Rattle.std.specs.List.{list_all}
use Rattle.std.proofs.lemmas.Option.{slice_get-map, slice_get_read}
use Rattle.std.proofs.lemmas.Bool.{and_parts}

-- an item of the first of two lists
pub slice_get-append_left : {X : Type 0} (xs ys : List X) (i : ℕ) → i < length xs → slice_get (xs ++ ys) i ≡ slice_get xs i
slice_get-append_left [] ys i h = absurd (omega (arith, h))
slice_get-append_left (x ∷ xs) ys zero h = refl
slice_get-append_left (x ∷ xs) ys (suc i) h = slice_get-append_left xs ys i (omega (arith, h))

-- an item of the second of two lists
pub slice_get-append_right : {X : Type 0} (xs ys : List X) (i j : ℕ) → j ≡ length xs + i → slice_get (xs ++ ys) j ≡ slice_get ys i
slice_get-append_right [] ys i j h = ap (slice_get ys) (omega (arith, h))
slice_get-append_right (x ∷ xs) ys i zero h = absurd (omega (arith, h))
slice_get-append_right (x ∷ xs) ys i (suc j) h = slice_get-append_right xs ys i j (omega (arith, h))

-- an item of a list whose items all pass
pub all_at : {X : Type 0} (test : X → Bool) (xs : List X) (x : X) (i : ℕ) → list_all test xs ≡ true → slice_get xs i ≡ Some x → test x ≡ true
all_at test [] x i h at = cc
all_at test (y ∷ ys) x zero h at =
    let same : y ≡ x = cc in
    ap test (sym same) ∙ (and_parts (test y) (list_all test ys) h).0
all_at test (y ∷ ys) x (suc i) h at = all_at test ys x i (and_parts (test y) (list_all test ys) h).1 at

-- what stands after a handle of a list
pub handle_at : {A X : Type 0} (view : A → X) (handles : List A) (p n : ℕ) (handle : A) → n ≡ length handles → p < n →
    handle ≡ get_or handles p handle → slice_get (map view handles) p ≡ Some (view handle)
handle_at view handles p n handle long small at =
    slice_get-map view handles p ∙ ap (option_map view) (slice_get_read handles n p handle long small at)

take_whole : {X : Type 0} (xs : List X) → take (length xs) xs ≡ xs
take_whole [] = refl
take_whole (x ∷ xs) = ap (λ l. x ∷ l) (take_whole xs)

-- a slice from a place to the end, seen by a view
pub slice-rest : {A X : Type 0} (view : A → X) (k : ℕ) (xs : List A) → map view (take (length xs - k) (drop k xs)) ≡ drop k (map view xs)
slice-rest view zero xs = let e : length xs - 0 ≡ length xs = omega arith in rw e (ap (map view) (take_whole xs))
slice-rest view (suc k) [] = let e : 0 - suc k ≡ 0 = omega arith in rw e refl
slice-rest view (suc k) (x ∷ xs) = let e : suc (length xs) - suc k ≡ length xs - k = omega arith in rw e (slice-rest view k xs)

-- the list that a call gave, under another name
pub ok_same : {A E X : Type 0} (seen : A → List X) (result : Result A E) (xs ys : List X) → xs ≡ ys → IfOk result (λ a. seen a ≡ xs) → IfOk result (λ a. seen a ≡ ys)
ok_same seen (Ok a) xs ys same is = is ∙ same
ok_same seen (Err e) xs ys same is = tt
