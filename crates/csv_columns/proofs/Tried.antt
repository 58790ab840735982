-- Fields of a column, and one more.
use Rattle.std.proofs.Common.{◌≡◌, ◌<◌, ◌+◌, ◌-◌, ℕ, zero, suc, Bool, true, false, List, [], ◌∷◌, ◌++◌, length, map, take, drop, get_or, set, refl, sym, ap, ◌∙◌, append_assoc, arith}
use Rattle.std.specs.Prelude.{◌&&◌, ◌||◌}
use Rattle.std.specs.List.{list_all, list_any}
use Rattle.std.proofs.Math.Seq.{get_or-append_seam}
use Rattle.std.proofs.lemmas.List.{drop_more, length-map, length-take-le, map-append, set-append_right, take_more}
use Rattle.arrow_types.specs.declared.data_type.DataType.{DataType}
use Rattle.arrow_types.specs.declared.data_type.DataType.TheVariants.{Number, Utf8}
use Rattle.arrow_types.specs.declared.data_type.NumberType.{NumberType}
use Rattle.csv_columns.specs.FittingColumns.{number_found, takes, takes_all}

and_assoc : (a b c : Bool) → ((a && b) && c) ≡ (a && (b && c))
and_assoc true b c = refl
and_assoc false b c = refl

and_true : (a : Bool) → (a && true) ≡ a
and_true true = refl
and_true false = refl

-- a test holds of all, and of one more
pub all_more : {X : Type 0} (p : X → Bool) (xs : List X) (y : X) → list_all p (xs ++ y ∷ []) ≡ (list_all p xs && p y)
all_more p [] y = and_true (p y)
all_more p (x ∷ xs) y = ap (λ (b : Bool). p x && b) (all_more p xs y) ∙ sym (and_assoc (p x) (list_all p xs) (p y))

or_assoc : (a b c : Bool) → ((a || b) || c) ≡ (a || (b || c))
or_assoc true b c = refl
or_assoc false b c = refl

or_false : (a : Bool) → (a || false) ≡ a
or_false true = refl
or_false false = refl

-- a test holds of one of them, or of one more
pub any_more : {X : Type 0} (p : X → Bool) (xs : List X) (y : X) → list_any p (xs ++ y ∷ []) ≡ (list_any p xs || p y)
any_more p [] y = or_false (p y)
any_more p (x ∷ xs) y = ap (λ (b : Bool). p x || b) (any_more p xs y) ∙ sym (or_assoc (p x) (list_any p xs) (p y))

-- a type that took all fields takes one more
pub takes_more : (t : DataType) (fields : List (List ℕ)) (field : List ℕ) (before after : Bool) → after ≡ (before && takes t field) → before ≡ takes_all t fields
    → after ≡ takes_all t (fields ++ field ∷ [])
takes_more t fields field before after is was = is ∙ ap (λ (b : Bool). b && takes t field) was ∙ sym (all_more (takes t) fields field)

-- ---- the types of numbers

-- whether a type takes all fields
abbrev pub taken : List (List ℕ) → NumberType → Bool
taken fields kind = takes_all (Number kind) fields

module _ {X : Type 0} (old new : X → Bool) (xs : List X) (i : ℕ) (x : X) (all : List Bool) (low : i < length xs) (is : x ≡ get_or xs i x) where
  abbrev Reaches : Type 0
  Reaches = all ≡ map new (take i xs) ++ map old (drop i xs)

  front_long : length (map new (take i xs)) ≡ i
  front_long = length-map (take i xs) new ∙ length-take-le i xs (omega (arith, low))

  split : Reaches → all ≡ map new (take i xs) ++ old x ∷ map old (drop (i + 1) xs)
  split so_far = so_far ∙ ap (λ (l : List X). map new (take i xs) ++ map old l) (drop_more xs i x low ∙ ap (λ (y : X). y ∷ drop (i + 1) xs) (sym is))

  -- the next one was not yet tried
  pub tried_at : (d : Bool) → Reaches → get_or all i d ≡ old x
  tried_at d so_far =
      let front = map new (take i xs) in
      let rest = map old (drop (i + 1) xs) in
      ap (λ (l : List Bool). get_or l i d) (split so_far) ∙ ap (λ (n : ℕ). get_or (front ++ old x ∷ rest) n d) (sym front_long) ∙ get_or-append_seam front (old x) rest d

  -- one more is tried
  pub one_tried : (one : Bool) → Reaches → one ≡ new x → set all i one ≡ map new (take (i + 1) xs) ++ map old (drop (i + 1) xs)
  one_tried one so_far made =
      let front = map new (take i xs) in
      let rest = map old (drop (i + 1) xs) in
      let here : i - i ≡ 0 = omega arith in
      let more : map new (take (i + 1) xs) ≡ front ++ new x ∷ [] = ap (map new) (take_more xs i x low ∙ ap (λ (y : X). take i xs ++ y ∷ []) (sym is)) ∙ map-append new (take i xs) (x ∷ []) in
      ap (λ (l : List Bool). set l i one) (split so_far)
      ∙ set-append_right front (old x ∷ rest) i i one front_long (omega arith)
      ∙ ap (λ (n : ℕ). front ++ set (old x ∷ rest) n one) here
      ∙ ap (λ (b : Bool). front ++ b ∷ rest) made
      ∙ sym (append_assoc front (new x ∷ []) rest)
      ∙ ap (λ (l : List Bool). l ++ rest) (sym more)

-- the first type that takes all fields is found
pub found_at : (kinds : List NumberType) (fields : List (List ℕ)) (k : ℕ) (d : NumberType) → k < length kinds → get_or (map (taken fields) kinds) k false ≡ true
    → ((j : ℕ) → j < k → get_or (map (taken fields) kinds) j false ≡ false) → Number (get_or kinds k d) ≡ number_found kinds fields
found_at [] fields k d low here none = absurd (omega (arith, low))
found_at (kind ∷ kinds) fields zero d low here none = rw here refl
found_at (kind ∷ kinds) fields (suc k) d low here none =
    rw (none 0 (omega arith)) (found_at kinds fields k d (omega (arith, low)) here (λ j before. none (suc j) (omega (arith, before))))

pub found_none : (kinds : List NumberType) (fields : List (List ℕ)) → ((k : ℕ) → k < length kinds → get_or (map (taken fields) kinds) k false ≡ false) → Utf8 ≡ number_found kinds fields
found_none [] fields none = refl
found_none (kind ∷ kinds) fields none = rw (none 0 (omega arith)) (found_none kinds fields (λ k low. none (suc k) (omega (arith, low))))
