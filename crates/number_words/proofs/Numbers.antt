-- The year, the month and the day of a date are found again in its number.
use Rattle.std.proofs.Common.{◌≡◌, ℕ, zero, suc, ◌+◌, ◌-◌, ◌<◌, ◌≤◌, Bool, true, false, ℤ, pos, ◌-ℤ◌, ◌≤ℤ◌, ◌<ℤ◌, unsigned_abs, IsTrue, refl, sym, subst, arith, rules, inl, inr}
use Rattle.std.proofs.lemmas.Bool.{cases_order}
use Rattle.std.specs.Int.RustNames.{int_le}
use Rattle.jiff_core.specs.Calendar.{days_from_civil, IsCivilDate, IsEpochDay}
use Rattle.jiff_core.specs.declared.civil.date.Date.{Date}
use Rattle.jiff_core.specs.Date.{epoch_day}
use Rattle.jiff_core.proofs.DateLemmas.{civil, days_from_civil-max}
use Rattle.jiff_core.proofs.SignedLemmas.{signed_arith}
use Rattle.jiff_core.proofs.CalendarLemmas.{days_from_civil-day_count, day_count-day_of_year, day_count-lt_year, day_count-lt_month, day_count-day, day_count_bounds}
use Rattle.number_words.specs.DateText.{last_that, year_at, month_at, day_of_month_at, has_date}
use Rattle.number_words.proofs.Parts.{int_le-true, int_le-false, from_to-true, from_to-parts}

-- where k passes and no number after it does, k is the last one
pub last_is : (passes : ℕ → Bool) (n k : ℕ) → 1 ≤ k → k ≤ n → IsTrue (passes k) → ((j : ℕ) → k < j → passes j ≡ false) → last_that passes n ≡ k
unfolding last_that
last_is passes zero k low high here none = absurd (omega arith)
last_is passes (suc n) k low high here none = elim (cases_order k (suc n)) [
  | inl same ↦ rw (subst (λ m. IsTrue (passes m)) same here) (sym same)
  | inr (inl lt) ↦ rw (none (suc n) lt) (last_is passes n k low (omega arith) here none)
  | inr (inr gt) ↦ absurd (omega arith)
]

-- a date of the years 1 to 9999
pub record IsShownDate (y m d : ℕ) : Type 0 where
  pub first : 1 ≤ y
  pub last : y ≤ 9999
  pub civil : IsCivilDate (pos y) m d

pub year_first : (y m d : ℕ) → IsShownDate y m d → days_from_civil (pos y) 1 1 ≤ℤ days_from_civil (pos y) m d
year_first y m d h =
    omega (arith, signed_arith, days_from_civil-day_count (pos y) 1 1, days_from_civil-day_count (pos y) m d, day_count-day_of_year (pos y) m d h.civil.2.0)

pub year_next : (y m d j : ℕ) → IsShownDate y m d → y < j → days_from_civil (pos y) m d <ℤ days_from_civil (pos j) 1 1
year_next y m d j h later =
    omega (arith, signed_arith, days_from_civil-day_count (pos j) 1 1, days_from_civil-day_count (pos y) m d, day_count-lt_year (pos y) m d (pos j) 1 1 h.civil (omega arith) (omega (arith, signed_arith)))

pub year_found : (y m d : ℕ) → IsShownDate y m d → year_at (days_from_civil (pos y) m d) ≡ y
year_found y m d h = last_is (λ (year : ℕ). int_le (days_from_civil (pos year) 1 1) (days_from_civil (pos y) m d)) 9999 y h.first h.last
    (int_le-true _ _ (year_first y m d h)) (λ j later. int_le-false _ _ (year_next y m d j h later))

pub month_first : (y m d : ℕ) → IsShownDate y m d → days_from_civil (pos y) m 1 ≤ℤ days_from_civil (pos y) m d
month_first y m d h =
    omega (arith, signed_arith, days_from_civil-day_count (pos y) m 1, days_from_civil-day_count (pos y) m d, day_count-day (pos y) m 1 d (omega arith) h.civil.2.0, h.civil.2.0)

pub month_next : (y m d j : ℕ) → IsShownDate y m d → m < j → days_from_civil (pos y) m d <ℤ days_from_civil (pos y) j 1
month_next y m d j h later =
    omega (arith, signed_arith, days_from_civil-day_count (pos y) j 1, days_from_civil-day_count (pos y) m d, day_count-lt_month (pos y) m d j 1 h.civil (omega arith) later)

month_in : (y m d year : ℕ) → IsShownDate y m d → year ≡ y → last_that (λ (month : ℕ). int_le (days_from_civil (pos year) month 1) (days_from_civil (pos y) m d)) 12 ≡ m
month_in y m d year h same =
    rw same (last_is (λ (month : ℕ). int_le (days_from_civil (pos y) month 1) (days_from_civil (pos y) m d)) 12 m h.civil.1.0 h.civil.1.1
    (int_le-true _ _ (month_first y m d h)) (λ j later. int_le-false _ _ (month_next y m d j h later)))

pub month_found : (y m d : ℕ) → IsShownDate y m d → month_at (days_from_civil (pos y) m d) ≡ m
month_found y m d h = month_in y m d (year_at (days_from_civil (pos y) m d)) h (year_found y m d h)

-- the days from the first of a month to a date in it
days_in : (y m d : ℕ) → IsShownDate y m d → days_from_civil (pos y) m d -ℤ days_from_civil (pos y) m 1 ≡ pos (d - 1)
days_in y m d h =
    omega (arith, signed_arith, days_from_civil-day_count (pos y) m 1, days_from_civil-day_count (pos y) m d, day_count-day (pos y) m 1 d (omega arith) h.civil.2.0, h.civil.2.0)

day_in_month : (y m d year month : ℕ) → IsShownDate y m d → year ≡ y → month ≡ m → unsigned_abs (days_from_civil (pos y) m d -ℤ days_from_civil (pos year) month 1) + 1 ≡ d
day_in_month y m d year month h same_year same_month =
    let low = h.civil.2.0 in
    rw (same_year, same_month, days_in y m d h) (omega arith)

pub day_found : (y m d : ℕ) → IsShownDate y m d → day_of_month_at (days_from_civil (pos y) m d) ≡ d
day_found y m d h = day_in_month y m d (year_at (days_from_civil (pos y) m d)) (month_at (days_from_civil (pos y) m d)) h (year_found y m d h) (month_found y m d h)

first_is_civil : IsCivilDate (pos 1) 1 1
first_is_civil = search rules

after_first : (y m d : ℕ) → IsShownDate y m d → days_from_civil (pos 1) 1 1 ≤ℤ days_from_civil (pos y) m d
after_first y m d h = elim (cases_order 1 y) [
  | inl same ↦ subst (λ (k : ℕ). days_from_civil (pos k) 1 1 ≤ℤ days_from_civil (pos y) m d) (sym same) (year_first y m d h)
  | inr (inl lt) ↦ omega (arith, signed_arith, days_from_civil-day_count (pos 1) 1 1, days_from_civil-day_count (pos y) m d, day_count-lt_year (pos 1) 1 1 (pos y) m d first_is_civil h.civil.2.0 (omega (arith, signed_arith)))
  | inr (inr gt) ↦ absurd (let low = h.first in omega arith)
]

up_to_last : (y m d : ℕ) → IsShownDate y m d → days_from_civil (pos y) m d ≤ℤ days_from_civil (pos 9999) 12 31
up_to_last y m d h =
    omega (arith, signed_arith, days_from_civil-day_count (pos y) m d, days_from_civil-max, day_count_bounds (pos y) m d h.civil)

pub date_is_shown : (y m d : ℕ) → IsShownDate y m d → IsTrue (has_date (days_from_civil (pos y) m d))
date_is_shown y m d h = from_to-true _ _ _ (after_first y m d h) (up_to_last y m d h)

-- a day before the year 1 is not printed as a date
pub early_is_not_shown : (d : Date) → d.year ≤ℤ pos 0 → has_date (epoch_day d) ≡ false
early_is_not_shown d early =
    let before : epoch_day d <ℤ days_from_civil (pos 1) 1 1 = omega (
      arith,
      signed_arith,
      days_from_civil-day_count (pos 1) 1 1,
      days_from_civil-day_count d.year d.month d.day,
      day_count-lt_year d.year d.month d.day (pos 1) 1 1 (civil d) (omega arith) (omega (arith, signed_arith)),
    ) in
    rw (int_le-false (days_from_civil (pos 1) 1 1) (epoch_day d) before) refl

-- a day that is printed as a date is one that the library has
pub shown_is_epoch_day : (day : ℤ) → IsTrue (has_date day) → IsEpochDay day
shown_is_epoch_day day h =
    let ends = from_to-parts (days_from_civil (pos 1) 1 1) (days_from_civil (pos 9999) 12 31) day h in
    (omega (arith, signed_arith, days_from_civil-day_count (pos 1) 1 1, day_count_bounds (pos 1) 1 1 first_is_civil, ends.0), omega (arith, signed_arith, days_from_civil-max, ends.1))

pub false_if_not : (b : Bool) → ¬ (IsTrue b) → b ≡ false
false_if_not true h = absurd (h refl)
false_if_not false h = refl
