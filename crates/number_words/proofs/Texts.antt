-- The texts of dates: what is printed reads back, and what reads is what is printed.
use Rattle.std.proofs.Common.{◌≡◌, ℕ, ◌+◌, ◌-◌, ◌*◌, ◌/◌, ◌%◌, ◌<◌, ◌≤◌, ◌&&◌, Bool, true, false, if◌then◌else◌, List, [], ◌∷◌, ◌++◌, length, slice_index, IsTrue, Option, Some, None, ℤ, pos, refl, sym, ap, ◌∙◌, arith}
use Rattle.std.specs.Char.{is_ascii_digit}
use Rattle.std.proofs.lemmas.Bool.Decides.{nat_tests}
use Rattle.jiff_core.specs.Calendar.{days_from_civil, days_in_month}
use Rattle.jiff_core.proofs.SignedLemmas.{signed_arith}
use Rattle.jiff_core.proofs.CalendarLemmas.{days_in_month_bounds}
use Rattle.number_words.specs.Dates.{two_stand, two_digits, four_digits, is_date_form, is_date, is_from_to, day_of, day_in}
use Rattle.number_words.specs.DateText.{in_two_digits, date_text, has_date, date_of, month_at, day_of_month_at, TextsAreDates}
use Rattle.number_words.proofs.Parts.{both, HasForm, form_parts, from_to-parts, from_to-true}
use Rattle.number_words.proofs.Numbers.{IsShownDate, year_found, month_found, day_found, date_is_shown}

pub all : (a b : Bool) → IsTrue a → IsTrue b → IsTrue (a && b)
all a b p q = rw (p, q) refl

-- a number below 100, in two digits, and back

pub digit_stands : (n : ℕ) → n < 10 → IsTrue (is_ascii_digit (48 + n))
digit_stands n h = grind (arith, nat_tests)

pub two_stand_there : (n : ℕ) → n < 100 → IsTrue (is_ascii_digit (48 + n / 10) && is_ascii_digit (48 + n % 10))
two_stand_there n h = all _ _ (digit_stands (n / 10) (omega arith)) (digit_stands (n % 10) (omega arith))

pub said : (n : ℕ) → 10 * (48 + n / 10 - 48) + (48 + n % 10 - 48) ≡ n
said n = omega arith

digit_bounds : (b : ℕ) → IsTrue (is_ascii_digit b) → (48 ≤ b) × (b ≤ 57)
digit_bounds b h = grind (arith, nat_tests)

small_digits : (a b : ℕ) → IsTrue (is_ascii_digit a) → IsTrue (is_ascii_digit b) → 10 * (a - 48) + (b - 48) < 100
small_digits a b p q = omega (arith, digit_bounds a p, digit_bounds b q)

digits_back : (a b : ℕ) → IsTrue (is_ascii_digit a) → IsTrue (is_ascii_digit b) → in_two_digits (10 * (a - 48) + (b - 48)) ≡ a ∷ b ∷ []
digits_back a b p q =
    let low = digit_bounds a p in
    let high = digit_bounds b q in
    let front : 48 + (10 * (a - 48) + (b - 48)) / 10 ≡ a = omega arith in
    let back : 48 + (10 * (a - 48) + (b - 48)) % 10 ≡ b = omega arith in
    cc

two_back : (text : List ℕ) (at : ℕ) → IsTrue (two_stand text at) → in_two_digits (two_digits text at) ≡ slice_index text at ∷ slice_index text (at + 1) ∷ []
two_back text at h =
    let parts = both (is_ascii_digit (slice_index text at)) (is_ascii_digit (slice_index text (at + 1))) h in
    digits_back (slice_index text at) (slice_index text (at + 1)) parts.0 parts.1

two_small : (text : List ℕ) (at : ℕ) → IsTrue (two_stand text at) → two_digits text at < 100
two_small text at h =
    let parts = both (is_ascii_digit (slice_index text at)) (is_ascii_digit (slice_index text (at + 1))) h in
    small_digits (slice_index text at) (slice_index text (at + 1)) parts.0 parts.1

-- what is printed has the form of a date

form_is : (y m d : ℕ) → y < 10000 → m < 100 → d < 100 → IsTrue (is_date_form (date_text y m d))
form_is y m d hy hm hd =
    all _ true (all _ _ (all _ _ (two_stand_there (y / 100) (omega arith)) (two_stand_there (y % 100) (omega arith))) (all _ _ (two_stand_there m hm) (two_stand_there d hd))) refl

day_in_form : (text : List ℕ) → IsTrue (is_date_form text) → day_in text ≡ day_of (pos (four_digits text 0)) (pos (two_digits text 5)) (pos (two_digits text 8))
day_in_form text f = rw f refl

day_of_parts : (a b c y m d : ℕ) → a ≡ y → b ≡ m → c ≡ d → day_of (pos a) (pos b) (pos c) ≡ day_of (pos y) (pos m) (pos d)
day_of_parts a b c y m d p q r = rw (p, q, r) refl

date_is : (y m d : ℕ) → IsShownDate y m d → IsTrue (is_date (pos y) (pos m) (pos d))
date_is y m d h =
    rw (
      from_to-true (pos 1) (pos 9999) (pos y) (let low = h.first in omega (arith, signed_arith)) (let high = h.last in omega (arith, signed_arith)),
      from_to-true (pos 1) (pos 12) (pos m) (let low = h.civil.1.0 in omega (arith, signed_arith)) (let high = h.civil.1.1 in omega (arith, signed_arith)),
      from_to-true (pos 1) (pos (days_in_month (pos y) m)) (pos d) (let low = h.civil.2.0 in omega (arith, signed_arith)) (let high = h.civil.2.1 in omega (arith, signed_arith)),
    ) refl

day_of_date : (y m d : ℕ) → IsShownDate y m d → day_of (pos y) (pos m) (pos d) ≡ Some (days_from_civil (pos y) m d)
day_of_date y m d h = rw (date_is y m d h) refl

pub text_reads : (y m d : ℕ) → IsShownDate y m d → day_in (date_text y m d) ≡ Some (days_from_civil (pos y) m d)
text_reads y m d h =
    let last = h.last in
    let month = h.civil.1.1 in
    let day = h.civil.2.1 in
    let long = days_in_month_bounds (pos y) m in
    let year_said : 100 * (10 * (48 + y / 100 / 10 - 48) + (48 + y / 100 % 10 - 48)) + (10 * (48 + y % 100 / 10 - 48) + (48 + y % 100 % 10 - 48)) ≡ y = omega (arith, said (y / 100), said (y % 100)) in
    day_in_form (date_text y m d) (form_is y m d (omega arith) (omega arith) (omega arith))
    ∙ day_of_parts _ _ _ y m d year_said (said m) (said d)
    ∙ day_of_date y m d h

-- the date of a day is that date's text
pub date_of_is : (y m d : ℕ) → IsShownDate y m d → date_of (days_from_civil (pos y) m d) ≡ date_text y m d
date_of_is y m d h =
    let year = year_found y m d h in
    let month = month_found y m d h in
    let day = day_found y m d h in
    ap (λ (n : ℕ). date_text n (month_at (days_from_civil (pos y) m d)) (day_of_month_at (days_from_civil (pos y) m d))) year
    ∙ ap (λ (n : ℕ). date_text y n (day_of_month_at (days_from_civil (pos y) m d))) month
    ∙ ap (λ (n : ℕ). date_text y m n) day

-- what reads is what is printed

shape : (text : List ℕ) → length text ≡ 10 → slice_index text 4 ≡ 45 → slice_index text 7 ≡ 45
    → text ≡ (slice_index text 0 ∷ slice_index text 1 ∷ []) ++ ((slice_index text 2 ∷ slice_index text 3 ∷ []) ++ (45 ∷ ((slice_index text 5 ∷ slice_index text 6 ∷ []) ++ (45 ∷ (slice_index text 8 ∷ slice_index text 9 ∷ [])))))
shape [] long p q = absurd (omega arith)
shape (a ∷ []) long p q = absurd (omega arith)
shape (a ∷ b ∷ []) long p q = absurd (omega arith)
shape (a ∷ b ∷ c ∷ []) long p q = absurd (omega arith)
shape (a ∷ b ∷ c ∷ d ∷ []) long p q = absurd (omega arith)
shape (a ∷ b ∷ c ∷ d ∷ e ∷ []) long p q = absurd (omega arith)
shape (a ∷ b ∷ c ∷ d ∷ e ∷ f ∷ []) long p q = absurd (omega arith)
shape (a ∷ b ∷ c ∷ d ∷ e ∷ f ∷ g ∷ []) long p q = absurd (omega arith)
shape (a ∷ b ∷ c ∷ d ∷ e ∷ f ∷ g ∷ h ∷ []) long p q = absurd (omega arith)
shape (a ∷ b ∷ c ∷ d ∷ e ∷ f ∷ g ∷ h ∷ i ∷ []) long p q = absurd (omega arith)
shape (a ∷ b ∷ c ∷ d ∷ e ∷ f ∷ g ∷ h ∷ i ∷ j ∷ []) long p q = rw (p, q) refl
shape (a ∷ b ∷ c ∷ d ∷ e ∷ f ∷ g ∷ h ∷ i ∷ j ∷ k ∷ rest) long p q = absurd (omega arith)

joined : (a b c d x y z w : List ℕ) → a ≡ x → b ≡ y → c ≡ z → d ≡ w → a ++ (b ++ (45 ∷ (c ++ (45 ∷ d)))) ≡ x ++ (y ++ (45 ∷ (z ++ (45 ∷ w))))
joined a b c d x y z w p q r s = rw (p, q, r, s) refl

text_is : (text : List ℕ) → HasForm text → text ≡ date_text (four_digits text 0) (two_digits text 5) (two_digits text 8)
text_is text h =
    let high = two_small text 0 h.century in
    let low = two_small text 2 h.year in
    let front : four_digits text 0 / 100 ≡ two_digits text 0 = omega arith in
    let back : four_digits text 0 % 100 ≡ two_digits text 2 = omega arith in
    shape text h.long h.first h.second
    ∙ sym (joined _ _ _ _ _ _ _ _ (ap in_two_digits front ∙ two_back text 0 h.century) (ap in_two_digits back ∙ two_back text 2 h.year) (two_back text 5 h.month) (two_back text 8 h.day))

when_some : (b : Bool) (x : Option ℤ) (z : ℤ) → (if b then x else None) ≡ Some z → IsTrue b × (x ≡ Some z)
when_some true x z h = (refl, h)
when_some false x z h = absurd (cc)

same_day : (a b : ℤ) → Some a ≡ Some b → a ≡ b
same_day a b h = cc

shown_from : (y m d : ℕ) → IsTrue (is_date (pos y) (pos m) (pos d)) → IsShownDate y m d
shown_from y m d h =
    let outer = both (is_from_to (pos 1) (pos 9999) (pos y)) (is_from_to (pos 1) (pos 12) (pos m) && is_from_to (pos 1) (pos (days_in_month (pos y) m)) (pos d)) h in
    let inner = both (is_from_to (pos 1) (pos 12) (pos m)) (is_from_to (pos 1) (pos (days_in_month (pos y) m)) (pos d)) outer.1 in
    let year = from_to-parts (pos 1) (pos 9999) (pos y) outer.0 in
    let month = from_to-parts (pos 1) (pos 12) (pos m) inner.0 in
    let day = from_to-parts (pos 1) (pos (days_in_month (pos y) m)) (pos d) inner.1 in
    record {
      first = omega (arith, signed_arith, year.0);
      last = omega (arith, signed_arith, year.1);
      civil = (
        (omega (arith, signed_arith, year.0), omega (arith, signed_arith, year.1)),
        (omega (arith, signed_arith, month.0), omega (arith, signed_arith, month.1)),
        (omega (arith, signed_arith, day.0), omega (arith, signed_arith, day.1)),
      );
    }

pub texts_are_dates : TextsAreDates
texts_are_dates text day h =
    let whole = when_some (is_date_form text) (day_of (pos (four_digits text 0)) (pos (two_digits text 5)) (pos (two_digits text 8))) day h in
    let inner = when_some (is_date (pos (four_digits text 0)) (pos (two_digits text 5)) (pos (two_digits text 8))) (Some (days_from_civil (pos (four_digits text 0)) (two_digits text 5) (two_digits text 8))) day whole.1 in
    let number = same_day _ _ inner.1 in
    let shown = shown_from (four_digits text 0) (two_digits text 5) (two_digits text 8) inner.0 in
    let test : IsTrue (has_date day) = ap has_date (sym number) ∙ date_is_shown _ _ _ shown in
    (test, text_is text (form_parts text whole.0) ∙ sym (date_of_is _ _ _ shown) ∙ ap date_of number)
