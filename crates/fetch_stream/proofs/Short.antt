-- A test that no item of a list meets, no item of a part of it meets.
use Rattle.std.proofs.Common.{◌≡◌, ℕ, zero, suc, Bool, false, List, [], ◌∷◌, take, drop, refl}
use Rattle.std.specs.List.{list_any}
use Rattle.table_versions.proofs.Storable.{first_false, second_false}

pub none-take : {X : Type 0} (test : X → Bool) (n : ℕ) (xs : List X) → list_any test xs ≡ false → list_any test (take n xs) ≡ false
none-take test zero xs h = refl
none-take test (suc n) [] h = refl
none-take test (suc n) (x ∷ xs) h =
    rw (first_false (test x) (list_any test xs) h) (none-take test n xs (second_false (test x) (list_any test xs) h))

pub none-drop : {X : Type 0} (test : X → Bool) (n : ℕ) (xs : List X) → list_any test xs ≡ false → list_any test (drop n xs) ≡ false
none-drop test zero xs h = h
none-drop test (suc n) [] h = refl
none-drop test (suc n) (x ∷ xs) h = none-drop test n xs (second_false (test x) (list_any test xs) h)
