-- Numbers of the texts of keys.
use Rattle.std.proofs.Common.{◌≡◌, ◌≢◌, ◌<◌, ◌&&◌, ℕ, zero, suc, ◌+◌, Bool, true, false, arith, if◌then◌else◌, length, List, [], ◌∷◌, ◌++◌, Option, Some, None, map, refl, sym, ap, subst, ◌∙◌}
use Rattle.std.specs.Prelude.{IfSome, nat_eq, nat_lt}
use Rattle.std.specs.Borrow.{Bor}
use Rattle.std.specs.List.{position_or_len}
use Rattle.std.specs.Str.{bytes_eq}
use Rattle.std.proofs.lemmas.Slice.Eq.{bytes_eq-Decides}
use borrow.Author.Tests.{eq-eqb}
use Rattle.indexmap.specs.IndexSet.{insert_key}
use Rattle.scan_base.specs.declared.value.Value.{Value}
use Rattle.scan_base.specs.declared.value.Value.TheVariants.{Null, Bool as Flag, Int, Text}
use Rattle.arrays.specs.Batch.{BatchAt}
use Rattle.coded_keys.specs.declared.numbers.SeenNumber.{SeenNumber}
use Rattle.coded_keys.specs.Numbers.{AreNumbers, IsSeenNumber}
use Rattle.first_rows.specs.declared.texts.TextNumbers.{TextNumbers}
use Rattle.first_rows.specs.NumberedKeys.{blanked, without}
use Rattle.first_rows.specs.Numbers.{IsBehind, IsNumber, IsPairNumber, IsStep, IsWith, Stay, long_text, pair_place, text_number}
use Rattle.first_rows.proofs.Places.{inserted, pair_one, stays, text_one}

-- what was kept of rows stays so
pub seen_stays : (numbers more : Value → Option ℕ) (batch : BatchAt) (columns : List ℕ) (places : List (Option SeenNumber)) →
    ((value : Value) (number : ℕ) → numbers value ≡ Some number → more value ≡ Some number) →
    AreNumbers numbers batch columns places → AreNumbers more batch columns places
seen_stays numbers more batch columns places stay are = λ k d low. one _ (are k d low)
  where
    one : (place : Option SeenNumber) → IfSome place (IsSeenNumber numbers batch columns) → IfSome place (IsSeenNumber more batch columns)
    one None h = tt
    one (Some seen) h = λ within. stay _ _ (h within)

-- the number of one text alone, and of texts and one more
pub behind_none : (pairs : List (ℕ × ℕ)) (before text number : ℕ) → before ≡ 0 → number ≡ text + 1 → IsBehind pairs before text number
behind_none pairs zero text number none is = is
behind_none pairs (suc before) text number none is = absurd (omega (arith, none))

pub behind_pair : (pairs : List (ℕ × ℕ)) (before text number : ℕ) → before ≢ 0 → IsPairNumber pairs before text number → IsBehind pairs before text number
behind_pair pairs zero text number some is = absurd (some refl)
behind_pair pairs (suc before) text number some is = is

behind_stays : (before after : TextNumbers) (n text m : ℕ) → Stay before after → IsBehind before.pairs.keys n text m → IsBehind after.pairs.keys n text m
behind_stays before after zero text m stay is = is
behind_stays before after (suc n) text m stay is = (is.0, stay.pairs (suc n) text is.0 is.1, is.2)

behind_some : (pairs : List (ℕ × ℕ)) (n text m : ℕ) → IsBehind pairs n text m → m ≢ 0
behind_some pairs zero text m is none = omega (arith, is, none)
behind_some pairs (suc n) text m is none = omega (arith, is.2, none)

behind_only : (pairs : List (ℕ × ℕ)) (n text m k : ℕ) → IsBehind pairs n text m → IsBehind pairs n text k → m ≡ k
behind_only pairs zero text m k one two = one ∙ sym two
behind_only pairs (suc n) text m k one two =
    let pair : Some one.0 ≡ Some two.0 = sym one.1 ∙ two.1 in
    let same : one.0 ≡ two.0 = cc in
    one.2 ∙ ap (λ (at : ℕ). at + 1) same ∙ sym two.2

-- no texts, or some, stand before both of two values
abbrev AreBoth : ℕ → ℕ → Type 0
AreBoth n m = (n ≡ 0 → m ≡ 0) × (m ≡ 0 → n ≡ 0)

behind_one : (pairs : List (ℕ × ℕ)) (n m a b k : ℕ) → AreBoth n m → IsBehind pairs n a k → IsBehind pairs m b k → (n ≡ m) × (a ≡ b)
behind_one pairs zero zero a b k both one two = (refl, omega (arith, one, two))
behind_one pairs zero (suc m) a b k both one two = absurd (omega (arith, both.0 refl))
behind_one pairs (suc n) zero a b k both one two = absurd (omega (arith, both.1 refl))
behind_one pairs (suc n) (suc m) a b k both one two =
    let next : one.0 + 1 ≡ two.0 + 1 = sym one.2 ∙ two.2 in
    let place : two.0 ≡ one.0 = omega (arith, next) in
    pair_one pairs (suc n) a (suc m) b one.0 one.1 (two.1 ∙ ap Some place)

-- a long text is the value
pub is_text : (value : Value) (text : List ℕ) → long_text value ≡ Some text → value ≡ Text text
is_text Null text h = cc
is_text (Flag flag) text h = cc
is_text (Int number) text h = cc
is_text (Text bytes) text h = by (nat_lt 128 (length bytes)) h
  where
    by : (t : Bool) → (if t then Some bytes else None) ≡ Some text → Text bytes ≡ Text text
    by true h = let same : bytes ≡ text = cc in ap Text same
    by false h = cc

with_stays : (before after : TextNumbers) (n : ℕ) (text : Option (List ℕ)) (m : ℕ) → Stay before after → IsWith before n text m → IsWith after n text m
with_stays before after n None m stay step = step
with_stays before after n (Some text) m stay step =
    (step.0, stay.texts (Text text) step.0 step.1, behind_stays before after n step.0 m stay step.2)

-- the number of the texts of values stays
pub number_stays : (before after : TextNumbers) (n : ℕ) (values : List Value) (m : ℕ) → Stay before after → IsNumber before n values m → IsNumber after n values m
number_stays before after n [] m stay is = is
number_stays before after n (value ∷ values) m stay is =
    (is.0, with_stays before after n (long_text value) is.0 stay is.1, number_stays before after is.0 values m stay is.2)

-- one value more
pub number_more : (numbers : TextNumbers) (n : ℕ) (values : List Value) (m : ℕ) (value : Value) (k : ℕ) → IsNumber numbers n values m → IsStep numbers m value k →
    IsNumber numbers n (values ++ value ∷ []) k
number_more numbers n [] m value k is step = (k, subst (λ (at : ℕ). IsStep numbers at value k) is step, refl)
number_more numbers n (first ∷ values) m value k is step = (is.0, is.1, number_more numbers is.0 values m value k is.2 step)

with_only : (numbers : TextNumbers) (n : ℕ) (text : Option (List ℕ)) (m k : ℕ) → IsWith numbers n text m → IsWith numbers n text k → m ≡ k
with_only numbers n None m k one two = one ∙ sym two
with_only numbers n (Some text) m k one two =
    let text : Some one.0 ≡ Some two.0 = sym one.1 ∙ two.1 in
    let place : one.0 ≡ two.0 = cc in
    behind_only numbers.pairs.keys n one.0 m k one.2 (subst (λ (at : ℕ). IsBehind numbers.pairs.keys n at k) (sym place) two.2)

-- values have one number of texts
pub number_only : (numbers : TextNumbers) (n : ℕ) (values : List Value) (m k : ℕ) → IsNumber numbers n values m → IsNumber numbers n values k → m ≡ k
number_only numbers n [] m k one two = one ∙ sym two
number_only numbers n (value ∷ values) m k one two =
    let same : two.0 ≡ one.0 = with_only numbers n (long_text value) two.0 one.0 two.1 one.1 in
    number_only numbers one.0 values m k one.2 (subst (λ (at : ℕ). IsNumber numbers at values k) same two.2)

step_one : (numbers : TextNumbers) (n m : ℕ) (a b : Value) (k : ℕ) → AreBoth n m → blanked a ≡ blanked b → IsStep numbers n a k → IsStep numbers m b k → (n ≡ m) × (a ≡ b)
step_one numbers n m a b k both e one two = by (long_text a) (long_text b) refl refl e one two
  where
    by : (s t : Option (List ℕ)) → long_text a ≡ s → long_text b ≡ t → without s a ≡ without t b → IsWith numbers n s k → IsWith numbers m t k → (n ≡ m) × (a ≡ b)
    by None None is also e one two = let same : a ≡ b = cc in (sym one ∙ two, same)
    by (Some s) (Some t) is also e one two =
        let pair = behind_one numbers.pairs.keys n m one.0 two.0 k both one.2 two.2 in
        let same : s ≡ t = text_one numbers.texts.keys s t one.0 one.1 (two.1 ∙ ap Some (sym pair.1)) in
        (pair.0, is_text a s is ∙ ap Text same ∙ sym (is_text b t also))
    by _ _ is also e one two = cc

-- after two values that are alike next to their long texts stand texts of both, or of none
step_both : (numbers : TextNumbers) (n m : ℕ) (a b : Value) (k l : ℕ) → AreBoth n m → blanked a ≡ blanked b → IsStep numbers n a k → IsStep numbers m b l → AreBoth k l
step_both numbers n m a b k l both e one two = by (long_text a) (long_text b) e one two
  where
    by : (s t : Option (List ℕ)) → without s a ≡ without t b → IsWith numbers n s k → IsWith numbers m t l → AreBoth k l
    by None None e one two = (λ none. two ∙ both.0 (sym one ∙ none), λ none. one ∙ both.1 (sym two ∙ none))
    by (Some s) (Some t) e one two =
        (λ none. absurd (behind_some numbers.pairs.keys n one.0 k one.2 none), λ none. absurd (behind_some numbers.pairs.keys m two.0 l two.2 none))
    by _ _ e one two = absurd (cc)

-- values whose long texts have one number, and that are the same next to them, are the same
pub number_one : (numbers : TextNumbers) (n m : ℕ) (a b : List Value) (k : ℕ) → AreBoth n m → map blanked a ≡ map blanked b → IsNumber numbers n a k → IsNumber numbers m b k →
    (n ≡ m) × (a ≡ b)
number_one numbers n m [] [] k both e one two = (sym one ∙ two, refl)
number_one numbers n m [] (y ∷ ys) k both e one two = cc
number_one numbers n m (x ∷ xs) [] k both e one two = cc
number_one numbers n m (x ∷ xs) (y ∷ ys) k both e one two =
    let heads : blanked x ≡ blanked y = cc in
    let tails : map blanked xs ≡ map blanked ys = cc in
    let rest = number_one numbers one.0 two.0 xs ys k (step_both numbers n m x y one.0 two.0 both heads one.1 two.1) tails one.2 two.2 in
    let first = step_one numbers n m x y one.0 both heads one.1 (subst (IsStep numbers m y) (sym rest.0) two.1) in
    (first.0, ap (λ (z : Value). z ∷ xs) first.1 ∙ ap (λ (zs : List Value). y ∷ zs) rest.1)

-- texts keep their numbers where a text is inserted
pub text_stays : (keys after : List (Bor (List ℕ))) (text : Bor (List ℕ)) → after ≡ insert_key (λ (a b : Bor (List ℕ)). bytes_eq a.now b.now) keys text →
    (value : Value) (number : ℕ) → text_number keys value ≡ Some number → text_number after value ≡ Some number
text_stays keys after text is Null number h = h
text_stays keys after text is (Flag flag) number h = h
text_stays keys after text is (Int other) number h = h
text_stays keys after text is (Text other) number h =
    subst (λ (ks : List (Bor (List ℕ))). text_number ks (Text other) ≡ Some number) (sym is)
    (stays (λ (a b : Bor (List ℕ)). bytes_eq a.now b.now) (λ (b : Bor (List ℕ)). bytes_eq other b.now) keys text number h)

-- and one that is inserted has its place
pub text_inserted : (keys after : List (Bor (List ℕ))) (text : Bor (List ℕ)) (place : ℕ) → after ≡ insert_key (λ (a b : Bor (List ℕ)). bytes_eq a.now b.now) keys text →
    place ≡ position_or_len (λ (b : Bor (List ℕ)). bytes_eq text.now b.now) keys → place < length after → text_number after (Text text.now) ≡ Some place
text_inserted keys after text place is at low =
    let eq : Bor (List ℕ) → Bor (List ℕ) → Bool = λ a b. bytes_eq a.now b.now in
    let within : position_or_len (eq text) keys < length (insert_key eq keys text) = subst (λ (n : ℕ). n < length (insert_key eq keys text)) at (subst (λ (ks : List (Bor (List ℕ))). place < length ks) is low) in
    subst (λ (ks : List (Bor (List ℕ))). text_number ks (Text text.now) ≡ Some place) (sym is)
    (inserted eq keys text ((bytes_eq-Decides text.now text.now).1 refl) within ∙ ap Some (sym at))

-- pairs keep their places
pub pair_stays : (keys after : List (ℕ × ℕ)) (pair : ℕ × ℕ) → after ≡ insert_key (λ (a b : ℕ × ℕ). nat_eq a.0 b.0 && nat_eq a.1 b.1) keys pair →
    (earlier text place : ℕ) → pair_place keys earlier text ≡ Some place → pair_place after earlier text ≡ Some place
pair_stays keys after pair is earlier text place h =
    subst (λ (ks : List (ℕ × ℕ)). pair_place ks earlier text ≡ Some place) (sym is)
    (stays (λ (a b : ℕ × ℕ). nat_eq a.0 b.0 && nat_eq a.1 b.1) (λ (b : ℕ × ℕ). nat_eq earlier b.0 && nat_eq text b.1) keys pair place h)

pub pair_inserted : (keys after : List (ℕ × ℕ)) (before text place : ℕ) → after ≡ insert_key (λ (a b : ℕ × ℕ). nat_eq a.0 b.0 && nat_eq a.1 b.1) keys (before, text) →
    place ≡ position_or_len (λ (b : ℕ × ℕ). nat_eq before b.0 && nat_eq text b.1) keys → place < length after → pair_place after before text ≡ Some place
pair_inserted keys after before text place is at low =
    let eq : ℕ × ℕ → ℕ × ℕ → Bool = λ a b. nat_eq a.0 b.0 && nat_eq a.1 b.1 in
    let within : position_or_len (eq (before, text)) keys < length (insert_key eq keys (before, text)) =
    subst (λ (n : ℕ). n < length (insert_key eq keys (before, text))) at (subst (λ (ks : List (ℕ × ℕ)). place < length ks) is low) in
    let self : eq (before, text) (before, text) ≡ true = rw (eq-eqb before before refl, eq-eqb text text refl) refl in
    subst (λ (ks : List (ℕ × ℕ)). pair_place ks before text ≡ Some place) (sym is)
    (inserted eq keys (before, text) self within ∙ ap Some (sym at))

pub stay_self : (numbers : TextNumbers) → Stay numbers numbers
stay_self numbers = record { texts = λ value number h. h; pairs = λ earlier text place h. h }

pub stay_then : (a b c : TextNumbers) → Stay a b → Stay b c → Stay a c
stay_then a b c first second = record {
  texts = λ value number h. second.texts value number (first.texts value number h);
  pairs = λ earlier text place h. second.pairs earlier text place (first.pairs earlier text place h);
}
