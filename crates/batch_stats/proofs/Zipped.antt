-- Two lists of one length, place by place.
use Rattle.std.proofs.Common.{◌≡◌, ◌<◌, ℕ, zero, suc, List, [], ◌∷◌, ◌++◌, length, take, get_or, subst, sym, arith}
use Rattle.std.specs.List.{AllZip}

module _ {A B : Type 0} (R : A → B → Type 0) where
  -- with one item more of each
  pub zip_more : (xs : List A) (ys : List B) (n : ℕ) (x : A) (y : B) → AllZip R (take n xs) ys → n < length xs → x ≡ get_or xs n x → R x y →
      AllZip R (take (suc n) xs) (ys ++ y ∷ [])
  zip_more [] ys n x y all low is holds = absurd (omega arith)
  zip_more (a ∷ xs) [] zero x y all low is holds = (subst (λ z. R z y) is holds, tt)
  zip_more (a ∷ xs) (b ∷ ys) zero x y all low is holds = absurd all
  zip_more (a ∷ xs) [] (suc n) x y all low is holds = absurd all
  zip_more (a ∷ xs) (b ∷ ys) (suc n) x y all low is holds = (all.0, zip_more xs ys n x y all.1 (omega arith) is holds)

  -- at one place
  pub zip_at : (xs : List A) (ys : List B) (n : ℕ) (x : A) (y : B) → AllZip R xs ys → n < length xs → x ≡ get_or xs n x → y ≡ get_or ys n y → R x y
  zip_at [] ys n x y all low is its = absurd (omega arith)
  zip_at (a ∷ xs) [] n x y all low is its = absurd all
  zip_at (a ∷ xs) (b ∷ ys) zero x y all low is its = subst (λ z. R z y) (sym is) (subst (λ z. R a z) (sym its) all.0)
  zip_at (a ∷ xs) (b ∷ ys) (suc n) x y all low is its = zip_at xs ys n x y all.1 (omega arith) is its
