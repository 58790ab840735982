-- Places of what passes a test, as more is inserted.
use Rattle.std.proofs.Common.{◌≡◌, ◌<◌, ◌&&◌, ℕ, suc, ◌+◌, Bool, true, false, cond, not, List, [], ◌∷◌, ◌++◌, All, Some, None, length, length-append, map, get_or, refl, sym, ap, ◌∙◌, arith, nat_lt}
use Rattle.std.specs.Prelude.{nat_eq}
use Rattle.std.specs.Borrow.{Bor}
use Rattle.std.specs.List.{list_any, position, position_or_len}
use Rattle.std.specs.Str.{bytes_eq}
use Rattle.std.proofs.lemmas.Bool.{and_parts}
use Rattle.std.proofs.lemmas.Slice.Eq.{bytes_eq-Decides}
use Rattle.std.proofs.lemmas.List.{map-append}
use Rattle.std.proofs.lemmas.List.Elements.{All-push}
use Rattle.std.proofs.lemmas.List.Folds.{position_or_len_push}
use Rattle.std.proofs.lemmas.List.Quantifiers.{position-Some}
use borrow.Author.Tests.{eqb-true, lt-ltb, ltb-true, ne_eqb}
use Rattle.indexmap.specs.IndexSet.{insert_key}
use Rattle.scan_base.specs.declared.value.Value.TheVariants.{Text}
use Rattle.first_rows.specs.Numbers.{pair_place, text_number}

-- a place that is there is told
there : {A : Type 0} (p : A → Bool) (xs : List A) → position_or_len p xs < length xs → position p xs ≡ Some (position_or_len p xs)
there p xs low = rw (lt-ltb (position_or_len p xs) (length xs) low) refl

-- and one that is told is there
told : {A : Type 0} (p : A → Bool) (xs : List A) (i : ℕ) → position p xs ≡ Some i → (i ≡ position_or_len p xs) × (i < length xs)
told p xs i is = by (nat_lt (position_or_len p xs) (length xs)) refl
  where
    by : (t : Bool) → nat_lt (position_or_len p xs) (length xs) ≡ t → (i ≡ position_or_len p xs) × (i < length xs)
    by true e =
        let at : Some (position_or_len p xs) ≡ Some i = rw e at is in
        let same : position_or_len p xs ≡ i = cc in
        let low : position_or_len p xs < length xs = ltb-true _ _ e in
        (sym same, omega (arith, same, low))
    by false e = let bad : None ≡ Some i = rw e at is in cc

-- a place stays when more is inserted
pub stays : {A : Type 0} (eq : A → A → Bool) (p : A → Bool) (xs : List A) (y : A) (i : ℕ) → position p xs ≡ Some i → position p (insert_key eq xs y) ≡ Some i
stays eq p xs y i is = by (list_any (eq y) xs) refl
  where
    by : (t : Bool) → list_any (eq y) xs ≡ t → position p (insert_key eq xs y) ≡ Some i
    by true e = rw e is
    by false e =
        let at = told p xs i is in
        let apart : nat_eq (position_or_len p xs) (length xs) ≡ false = ne_eqb _ _ (λ (h : position_or_len p xs ≡ length xs). omega (arith, at.0, at.1)) in
        let same : position_or_len p (xs ++ y ∷ []) ≡ position_or_len p xs = position_or_len_push p xs y ∙ rw apart refl in
        let low : position_or_len p (xs ++ y ∷ []) < length (xs ++ y ∷ []) = omega (arith, same, at.0, at.1, length-append xs (y ∷ [])) in
        rw e (there p (xs ++ y ∷ []) low ∙ ap Some (same ∙ sym at.0))

-- what is inserted has its place
pub inserted : {A : Type 0} (eq : A → A → Bool) (xs : List A) (y : A) → eq y y ≡ true → position_or_len (eq y) xs < length (insert_key eq xs y) →
    position (eq y) (insert_key eq xs y) ≡ Some (position_or_len (eq y) xs)
inserted eq xs y self within = by (list_any (eq y) xs) refl
  where
    again : (t : Bool) → nat_eq (position_or_len (eq y) xs) (length xs) ≡ t → position_or_len (eq y) (xs ++ y ∷ []) ≡ position_or_len (eq y) xs
    again true h = let last = eqb-true _ _ h in position_or_len_push (eq y) xs y ∙ rw (h, self) (omega (arith, last))
    again false h = position_or_len_push (eq y) xs y ∙ rw h refl

    by : (t : Bool) → list_any (eq y) xs ≡ t → position (eq y) (insert_key eq xs y) ≡ Some (position_or_len (eq y) xs)
    by true e = let low = rw e at within in rw e (there (eq y) xs low)
    by false e =
        let low = rw e at within in
        let same = again (nat_eq (position_or_len (eq y) xs) (length xs)) refl in
        rw e (there (eq y) (xs ++ y ∷ []) (omega (arith, same, low)) ∙ ap Some same)

-- two texts with one number are one
pub text_one : (texts : List (Bor (List ℕ))) (a b : List ℕ) (i : ℕ) → text_number texts (Text a) ≡ Some i → text_number texts (Text b) ≡ Some i → a ≡ b
text_one [] a b i first second = let bad : None ≡ Some i = first in cc
text_one (t ∷ texts) a b i first second =
    let one = position-Some (λ (other : Bor (List ℕ)). bytes_eq a other.now) (t ∷ texts) i t first in
    let two = position-Some (λ (other : Bor (List ℕ)). bytes_eq b other.now) (t ∷ texts) i t second in
    (bytes_eq-Decides a (get_or (t ∷ texts) i t).now).0 one.1 ∙ sym ((bytes_eq-Decides b (get_or (t ∷ texts) i t).now).0 two.1)

-- two pairs with one place are one
pub pair_one : (pairs : List (ℕ × ℕ)) (a b c d : ℕ) (i : ℕ) → pair_place pairs a b ≡ Some i → pair_place pairs c d ≡ Some i → (a ≡ c) × (b ≡ d)
pair_one pairs a b c d i first second =
    let one = position-Some (λ (pair : ℕ × ℕ). nat_eq a pair.0 && nat_eq b pair.1) pairs i (0, 0) first in
    let two = position-Some (λ (pair : ℕ × ℕ). nat_eq c pair.0 && nat_eq d pair.1) pairs i (0, 0) second in
    let here = get_or pairs i (0, 0) in
    let ab = and_parts (nat_eq a here.0) (nat_eq b here.1) one.1 in
    let cd = and_parts (nat_eq c here.0) (nat_eq d here.1) two.1 in
    (eqb-true _ _ ab.0 ∙ sym (eqb-true _ _ cd.0), eqb-true _ _ ab.1 ∙ sym (eqb-true _ _ cd.1))

-- what holds of all, and of one more, holds of all that are inserted
pub all_inserted : {A : Type 0} (P : A → Type 0) (eq : A → A → Bool) (xs : List A) (y : A) → All P xs → P y → All P (insert_key eq xs y)
all_inserted P eq xs y all one = by (list_any (eq y) xs) refl
  where
    by : (t : Bool) → list_any (eq y) xs ≡ t → All P (insert_key eq xs y)
    by true e = rw e all
    by false e = rw e (All-push P xs y all one)

-- two tests that agree on all elements
pub any_same : {A B : Type 0} (P : A → Type 0) (f : A → Bool) (g : B → Bool) (h : A → B) (xs : List A) → ((x : A) → P x → f x ≡ g (h x)) → All P xs →
    list_any f xs ≡ list_any g (map h xs)
any_same P f g h [] same all = refl
any_same P f g h (x ∷ xs) same all =
    let rest = any_same P f g h xs same (λ k d low. all (suc k) d (omega (arith, low))) in
    rw (same x (all 0 x (omega arith)), rest) refl

pub place_same : {A B : Type 0} (P : A → Type 0) (f : A → Bool) (g : B → Bool) (h : A → B) (xs : List A) → ((x : A) → P x → f x ≡ g (h x)) → All P xs →
    position_or_len f xs ≡ position_or_len g (map h xs)
place_same P f g h [] same all = refl
place_same P f g h (x ∷ xs) same all =
    let rest = place_same P f g h xs same (λ k d low. all (suc k) d (omega (arith, low))) in
    rw (same x (all 0 x (omega arith))) (ap (λ n. cond (not (g (h x))) (1 + n) 0) rest)

-- what is inserted by one of two such tests
pub insert_same : {A B : Type 0} (P : A → Type 0) (f : A → A → Bool) (g : B → B → Bool) (h : A → B) (xs : List A) (y : A) → ((x : A) → P x → f y x ≡ g (h y) (h x)) → All P xs →
    map h (insert_key f xs y) ≡ insert_key g (map h xs) (h y)
insert_same P f g h xs y same all =
    let any : list_any (f y) xs ≡ list_any (g (h y)) (map h xs) = any_same P (f y) (g (h y)) h xs same all in
    by any (list_any (f y) xs) refl
  where
    by : list_any (f y) xs ≡ list_any (g (h y)) (map h xs) → (t : Bool) → list_any (f y) xs ≡ t → map h (insert_key f xs y) ≡ insert_key g (map h xs) (h y)
    by any true e = rw (sym any, e) refl
    by any false e = rw (sym any, e) (map-append h xs (y ∷ []))
