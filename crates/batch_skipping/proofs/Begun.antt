-- How a text stands to another, by its first bytes.
use Rattle.std.proofs.Common.{◌≡◌, ℕ, Bool, true, false, ◌&&◌, List, [], ◌∷◌, ◌++◌, nat_eq, nat_cmp, refl, sym, ap, ◌∙◌}
use Rattle.std.proofs.lemmas.Cmp.{nat_eq_equiv, ranked}
use Rattle.std.specs.Cmp.Lexicographic.{slice_cmp}
use Rattle.std.specs.List.{starts_with}
use Rattle.std.specs.Ordering.{is_ge, ordering_then}
use Rattle.std.specs.declared.cmp.Ordering.{Ordering}
use Rattle.std.specs.declared.cmp.Ordering.TheVariants.{Less, Equal, Greater}

-- a text is above another where its first bytes are, also where these are all of that
pub not_below : (first text : List ℕ) → is_ge (slice_cmp nat_cmp first text) ≡ true → (next : ℕ) (rest : List ℕ) → Greater ≡ slice_cmp nat_cmp (first ++ next ∷ rest) text
not_below [] [] h next rest = refl
not_below [] (y ∷ ys) h next rest = absurd (let no : ⊥ = cc in no)
not_below (x ∷ xs) [] h next rest = refl
not_below (x ∷ xs) (y ∷ ys) h next rest = by (nat_cmp x y) h (λ more. not_below xs ys more next rest)
  where
    by : (o : Ordering) → is_ge (ordering_then o (slice_cmp nat_cmp xs ys)) ≡ true →
        (is_ge (slice_cmp nat_cmp xs ys) ≡ true → Greater ≡ slice_cmp nat_cmp (xs ++ next ∷ rest) ys) →
        Greater ≡ ordering_then o (slice_cmp nat_cmp (xs ++ next ∷ rest) ys)
    by Less h more = absurd (let no : ⊥ = cc in no)
    by Equal h more = more h
    by Greater h more = refl

-- the rest of two lists is not one's beginning, where they begin with the same number
others_begin : (x y : ℕ) (more : Bool) → x ≡ y → (nat_eq x y && more) ≡ false → more ≡ false
others_begin x y more e h =
    let same : nat_eq x y ≡ true = ap (λ z. nat_eq x z) (sym e) ∙ nat_eq_equiv.refl x in
    sym (ap (λ b. b && more) same) ∙ h

-- a text is below another where its first bytes are, and that does not begin with them
pub is_below : (first text : List ℕ) → is_ge (slice_cmp nat_cmp first text) ≡ false → starts_with nat_eq text first ≡ false → (next : ℕ) (rest : List ℕ) →
    Less ≡ slice_cmp nat_cmp (first ++ next ∷ rest) text
is_below [] [] low other next rest = cc
is_below [] (y ∷ ys) low other next rest = cc
is_below (x ∷ xs) [] low other next rest = cc
is_below (x ∷ xs) (y ∷ ys) low other next rest =
    by (nat_cmp x y) refl low (λ low other. is_below xs ys low other next rest) other
  where
    by : (o : Ordering) → o ≡ nat_cmp x y → is_ge (ordering_then o (slice_cmp nat_cmp xs ys)) ≡ false →
        (is_ge (slice_cmp nat_cmp xs ys) ≡ false → starts_with nat_eq ys xs ≡ false → Less ≡ slice_cmp nat_cmp (xs ++ next ∷ rest) ys) →
        starts_with nat_eq (y ∷ ys) (x ∷ xs) ≡ false → Less ≡ ordering_then o (slice_cmp nat_cmp (xs ++ next ∷ rest) ys)
    by Less e low more other = refl
    by Equal e low more other = more low (others_begin x y (starts_with nat_eq ys xs) (ranked x y Equal e) other)
    by Greater e low more other = cc
