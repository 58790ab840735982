-- The dates of days, as texts.
use Rattle.std.specs.Prelude.{◌≡◌, ℕ, zero, suc, ◌+◌, ◌/◌, ◌%◌, Bool, if◌then◌else◌, List, [], ◌∷◌}
use Rattle.std.specs.Prelude.{◌++◌, ℤ, pos, ◌-ℤ◌, unsigned_abs, Option, Some, None, IsTrue}
use Rattle.std.specs.Prelude.{int_le}
use Rattle.std.specs.Str.{byte}
use Rattle.jiff_core.specs.Calendar.{days_from_civil}
use Rattle.number_words.specs.Dates.{day_in, is_from_to}

-- the last of the numbers 1 to n that passes, or 0
unfoldable pub last_that : (ℕ → Bool) → ℕ → ℕ
last_that passes zero = zero
last_that passes (suc n) = if passes (suc n) then suc n else last_that passes n

-- the year of a day: the last one that has begun
abbrev pub year_at : ℤ → ℕ
year_at day = last_that (λ year. int_le (days_from_civil (pos year) 1 1) day) 9999

-- its month: the last one of the year that has begun
abbrev pub month_at : ℤ → ℕ
month_at day = last_that (λ month. int_le (days_from_civil (pos (year_at day)) month 1) day) 12

-- its place in the month, from 1
abbrev pub day_of_month_at : ℤ → ℕ
day_of_month_at day = unsigned_abs (day -ℤ days_from_civil (pos (year_at day)) (month_at day) 1) + 1

-- a number below 100 in two digits
abbrev pub in_two_digits : ℕ → List ℕ
in_two_digits number = (byte "0" + number / 10) ∷ (byte "0" + number % 10) ∷ []

-- a year, a month and a day as yyyy-mm-dd
abbrev pub date_text : ℕ → ℕ → ℕ → List ℕ
date_text year month day = in_two_digits (year / 100) ++ (in_two_digits (year % 100)
    ++ (byte "-" ∷ (in_two_digits month ++ (byte "-" ∷ in_two_digits day))))

-- a day of the years 1 to 9999
abbrev pub has_date : ℤ → Bool
has_date day = is_from_to (days_from_civil (pos 1) 1 1) (days_from_civil (pos 9999) 12 31) day

-- the date of a day, as yyyy-mm-dd
abbrev pub date_of : ℤ → List ℕ
date_of day = date_text (year_at day) (month_at day) (day_of_month_at day)

-- the same, where the day is of those years
abbrev pub date_within : ℤ → Option (List ℕ)
date_within day = if has_date day then Some (date_of day) else None

-- the date of a day of those years reads as that day
abbrev pub DayReadsBack : ℤ → Type 0
DayReadsBack day = IsTrue (has_date day) → day_in (date_of day) ≡ Some day

-- no other text reads as that day
abbrev pub TextsAreDates : Type 0
TextsAreDates = (text : List ℕ) (day : ℤ) → day_in text ≡ Some day →
    IsTrue (has_date day) × (text ≡ date_of day)
