-- The day number of a date's text: yyyy-mm-dd, of the Gregorian calendar of the years 0001 to 9999.
use Rattle.std.specs.Prelude.{ℕ, ◌+◌, ◌-◌, ◌*◌, ◌==◌, ◌&&◌, Bool, if◌then◌else◌, List, length}
use Rattle.std.specs.Prelude.{slice_index, ℤ, pos, unsigned_abs, Option, Some, None, int_le}
use Rattle.std.specs.Char.{is_ascii_digit}
use Rattle.std.specs.Str.{byte}
use Rattle.jiff_core.specs.Calendar.{days_in_month, days_from_civil}

-- two digits stand there, from one place on
abbrev pub two_stand : List ℕ → ℕ → Bool
two_stand text at =
    is_ascii_digit (slice_index text at) && is_ascii_digit (slice_index text (at + 1))

-- the number that they say
abbrev pub two_digits : List ℕ → ℕ → ℕ
two_digits text at = 10 * (slice_index text at - byte "0") + (slice_index text (at + 1) - byte "0")

-- the number that four digits say
abbrev pub four_digits : List ℕ → ℕ → ℕ
four_digits text at = 100 * two_digits text at + two_digits text (at + 2)

-- a text of ten bytes: four digits, -, two digits, - and two digits
abbrev pub is_date_form : List ℕ → Bool
is_date_form text = (length text == 10)
    && (((two_stand text 0 && two_stand text 2) && (two_stand text 5 && two_stand text 8))
    && ((slice_index text 4 == byte "-") && (slice_index text 7 == byte "-")))

-- a number lies from low to high, both included
abbrev pub is_from_to : ℤ → ℤ → ℤ → Bool
is_from_to low high number = int_le low number && int_le number high

-- the calendar has this day, in a year from 1 to 9999
abbrev pub is_date : ℤ → ℤ → ℤ → Bool
is_date year month day = is_from_to (pos 1) (pos 9999) year && (is_from_to (pos 1) (pos 12) month
    && is_from_to (pos 1) (pos (days_in_month year (unsigned_abs month))) day)

-- its number, where 1970-01-01 is 0
abbrev pub day_of : ℤ → ℤ → ℤ → Option ℤ
day_of year month day =
    if is_date year month day
    then Some (days_from_civil year (unsigned_abs month) (unsigned_abs day)) else None

-- the day number of a date's text
abbrev pub day_in : List ℕ → Option ℤ
day_in text =
    if is_date_form text then day_of (pos (four_digits text 0)) (pos (two_digits text 5))
    (pos (two_digits text 8)) else None
