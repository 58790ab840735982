-- What holds of each item of a list, by its place.
use Rattle.std.proofs.Common.{◌≡◌, ◌≢◌, ◌<◌, ◌+◌, ℕ, List, [], ◌∷◌, ◌++◌, length, get_or, get_or-set_other, get_or-set_same, set, refl, sym, ap, subst, arith, below_more}
use Rattle.std.proofs.lemmas.List.{get_or_append_left, get_or_push}
use Rattle.csv_columns.specs.declared.type_candidates.TypeCandidates.{TypeCandidates}
use Rattle.csv_columns.specs.FittingColumns.{column_of}
use Rattle.csv_columns.specs.inside.Tests.{HasSeen}

-- of each so far, and of one more
pub each_more : {X : Type 0} (P : ℕ → X → Type 0) (xs : List X) (y : X) (n : ℕ) → length xs ≡ n → P n y
    → ((k : ℕ) (d : X) → k < n → P k (get_or xs k d)) → (k : ℕ) (d : X) → k < n + 1 → P k (get_or (xs ++ y ∷ []) k d)
each_more P xs y n long one each =
    λ k d. below_more (λ (j : ℕ). P j (get_or (xs ++ y ∷ []) j d)) n
    (λ (j : ℕ) (low : j < n).
    let inside : j < length xs = omega arith in
    rw get_or_append_left (each j d low))
    (subst (λ (x : _). P n x) (sym (get_or_push xs y d n long)) one)
    k

-- one of them is put where it stands, and those after it stay
pub one_set : (all first : List TypeCandidates) (records : List (List (List ℕ))) (fields : List (List ℕ)) (n : ℕ) (y : TypeCandidates) → n < length all
    → HasSeen y (column_of n (records ++ fields ∷ []))
    → ((k : ℕ) (d : TypeCandidates) → k < n → HasSeen (get_or all k d) (column_of k (records ++ fields ∷ [])))
    → (k : ℕ) (d : TypeCandidates) → k < n + 1 → HasSeen (get_or (set all n y) k d) (column_of k (records ++ fields ∷ []))
one_set all first records fields n y low one each =
    λ k d. below_more (λ (j : ℕ). HasSeen (get_or (set all n y) j d) (column_of j (records ++ fields ∷ []))) n
    (λ (j : ℕ) (less : j < n).
    let ne : j ≢ n = omega arith in
    rw get_or-set_other (each j d less))
    (rw get_or-set_same one)
    k

-- the fields of a column, and that of one record more
pub column_more : (k : ℕ) (records : List (List (List ℕ))) (fields : List (List ℕ)) → column_of k (records ++ fields ∷ []) ≡ column_of k records ++ get_or fields k [] ∷ []
column_more k [] fields = refl
column_more k (first ∷ records) fields = ap (λ (l : List (List ℕ)). get_or first k [] ∷ l) (column_more k records fields)
