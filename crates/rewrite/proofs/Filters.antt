-- Filters after each other, and of mapped and joined lists.
use Rattle.std.proofs.Common.{◌≡◌, Bool, true, false, cond, ◌&&◌, List, [], ◌∷◌, ◌++◌, map, filter, refl, ap, ◌∙◌}
use Rattle.std.specs.List.{flat_map}
use Rattle.std.proofs.lemmas.List.Elements.{filter-append}

pub filter-all : {X : Type 0} (xs : List X) → filter (λ x. true) xs ≡ xs
filter-all [] = refl
filter-all (x ∷ xs) = ap (λ ys. x ∷ ys) (filter-all xs)

pub filter-none : {X : Type 0} (p : X → Bool) → ((x : X) → p x ≡ false) → (xs : List X) → filter p xs ≡ []
filter-none p none [] = refl
filter-none p none (x ∷ xs) = rw (none x) (filter-none p none xs)

both_filters : {X : Type 0} (a b : Bool) (p : X → Bool) (x : X) (xs ys : List X) → p x ≡ b → filter p xs ≡ ys →
    filter p (cond a (x ∷ xs) xs) ≡ cond (a && b) (x ∷ ys) ys
both_filters true true p x xs ys e h = rw (e, h) refl
both_filters true false p x xs ys e h = rw (e, h) refl
both_filters false b p x xs ys e h = h

-- one filter after another
pub filter-filter : {X : Type 0} (p q : X → Bool) (xs : List X) → filter p (filter q xs) ≡ filter (λ x. q x && p x) xs
filter-filter p q [] = refl
filter-filter p q (x ∷ xs) = both_filters (q x) (p x) p x (filter q xs) (filter (λ y. q y && p y) xs) refl (filter-filter p q xs)

mapped_one : {X Y : Type 0} (b : Bool) (f : X → Y) (x : X) (xs : List X) → cond b (f x ∷ map f xs) (map f xs) ≡ map f (cond b (x ∷ xs) xs)
mapped_one true f x xs = refl
mapped_one false f x xs = refl

-- a filter of mapped items
pub filter-map : {X Y : Type 0} (p : Y → Bool) (f : X → Y) (xs : List X) → filter p (map f xs) ≡ map f (filter (λ x. p (f x)) xs)
filter-map p f [] = refl
filter-map p f (x ∷ xs) =
    ap (λ ys. cond (p (f x)) (f x ∷ ys) ys) (filter-map p f xs) ∙ mapped_one (p (f x)) f x (filter (λ y. p (f y)) xs)

-- a filter of lists one after another
pub filter-flat_map : {X Y : Type 0} (p : Y → Bool) (f : X → List Y) (xs : List X) →
    filter p (flat_map f xs) ≡ flat_map (λ x. filter p (f x)) xs
filter-flat_map p f [] = refl
filter-flat_map p f (x ∷ xs) = filter-append p (f x) (flat_map f xs) ∙ ap (λ ys. filter p (f x) ++ ys) (filter-flat_map p f xs)
