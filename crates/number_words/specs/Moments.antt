-- What texts say of moments: yyyy-mm-dd hh:mm:ss, digits after a point, and Z for UTC. The clock
-- has no leap seconds.
use Rattle.std.specs.Prelude.{ℕ, ◌+◌, ◌-◌, ◌*◌, ◌==◌, ◌&&◌, Bool, true, false, nat_le, nat_lt}
use Rattle.std.specs.Prelude.{if◌then◌else◌, List, [], ◌∷◌, length, take, drop, slice_index}
use Rattle.std.specs.Prelude.{slice_range, ℤ, pos, ◌+ℤ◌, ◌*ℤ◌, unsigned_abs, Option, Some, None}
use Rattle.std.specs.Char.{is_ascii_digit}
use Rattle.std.specs.Int.{int_div_euclid, int_rem_euclid}
use Rattle.std.specs.List.{list_all}
use Rattle.std.specs.Str.{byte}
use Rattle.arrow_types.specs.declared.data_type.TimeUnit.{TimeUnit}
use Rattle.arrow_types.specs.declared.data_type.TimeUnit.TheVariants.{Second, Millisecond}
use Rattle.arrow_types.specs.declared.data_type.TimeUnit.TheVariants.{Microsecond, Nanosecond}
use Rattle.number_words.specs.Dates.{day_in, two_digits, two_stand}

-- ---- nanoseconds

-- a text of eight bytes: two digits, :, two digits, : and two digits
abbrev pub is_clock_form : List ℕ → Bool
is_clock_form text = (length text == 8)
    && ((two_stand text 0 && (two_stand text 3 && two_stand text 6))
    && ((slice_index text 2 == byte ":") && (slice_index text 5 == byte ":")))

-- the seconds of a day, which has 24 hours of 60 minutes of 60 seconds
abbrev pub seconds_of : ℕ → ℕ → ℕ → Option ℕ
seconds_of hour minute second = if nat_lt hour 24 && (nat_lt minute 60 && nat_lt second 60)
    then Some (3600 * hour + (60 * minute + second)) else None

-- the seconds of a day that a text says as hh:mm:ss
unfoldable pub clock_in : List ℕ → Option ℕ
clock_in text = if is_clock_form text
    then seconds_of (two_digits text 0) (two_digits text 3) (two_digits text 6) else None

-- the digit at a place, and 0 where the text has ended
abbrev pub digit_at : List ℕ → ℕ → ℕ
digit_at text at = if nat_lt at (length text) then slice_index text at - byte "0" else 0

-- the number that three digits say
abbrev pub three_digits : List ℕ → ℕ → ℕ
three_digits text at =
    100 * digit_at text at + (10 * digit_at text (at + 1) + digit_at text (at + 2))

-- no byte, or a point and 1 to 9 digits
abbrev pub is_fraction_form : List ℕ → Bool
is_fraction_form [] = true
is_fraction_form (first ∷ digits) = (first == byte ".")
    && ((nat_le 1 (length digits) && nat_le (length digits) 9) && list_all is_ascii_digit digits)

-- the nanoseconds that a fraction of a second says
unfoldable pub fraction_in : List ℕ → Option ℕ
fraction_in text = if is_fraction_form text then Some (1000000 * three_digits text 1
    + (1000 * three_digits text 4 + three_digits text 7)) else None

-- the nanoseconds from 1970-01-01 00:00:00 to a day, seconds of it, and nanoseconds of a second
abbrev pub moment_of : Option ℤ → Option ℕ → Option ℕ → Option ℤ
moment_of (Some day) (Some seconds) (Some nanos) =
    Some (day *ℤ pos 86400000000000 +ℤ pos (seconds * 1000000000 + nanos))
moment_of _ _ _ = None

-- whether a text has room for a date and a clock, with a space between them
abbrev pub has_time : List ℕ → Bool
has_time text = nat_le 19 (length text) && (slice_index text 10 == byte " ")

-- the nanoseconds from 1970-01-01 00:00:00 to the moment that a text says: a date, a space, a clock
-- and a fraction
unfoldable pub moment_in : List ℕ → Option ℤ
moment_in text = if has_time text
    then moment_of (day_in (take 10 text)) (clock_in (slice_range text 11 19))
    (fraction_in (drop 19 text)) else None

-- whether a text ends with Z
abbrev pub ends_with_zone : List ℕ → Bool
ends_with_zone text = nat_le 1 (length text) && (slice_index text (length text - 1) == byte "Z")

-- the moment of a text with a zone, Z for UTC, or of one without
abbrev pub stamp_in : Bool → List ℕ → Option ℤ
stamp_in false text = moment_in text
stamp_in true text =
    if ends_with_zone text then moment_in (take (length text - 1) text) else None

-- the nanoseconds since a day began that a text says: a clock and a fraction
unfoldable pub time_in : List ℕ → Option ℤ
time_in text = if nat_le 8 (length text)
    then moment_of (Some (pos 0)) (clock_in (take 8 text)) (fraction_in (drop 8 text)) else None

-- ---- units

-- how many nanoseconds a unit has
abbrev pub nanos_in : TimeUnit → ℕ
nanos_in Second = 1000000000
nanos_in Millisecond = 1000000
nanos_in Microsecond = 1000
nanos_in Nanosecond = 1

-- how many of a size a number is, if it is a whole number of them
abbrev pub whole_in : ℤ → ℤ → Option ℤ
whole_in size number = if unsigned_abs (int_rem_euclid number size) == 0
    then Some (int_div_euclid number size) else None

-- a moment in a unit, if it is a whole number of it
abbrev pub in_unit : TimeUnit → Option ℤ → Option ℤ
in_unit unit None = None
in_unit unit (Some nanos) = whole_in (pos (nanos_in unit)) nanos

-- the timestamp that a text says
abbrev pub timestamp_in : TimeUnit → Bool → List ℕ → Option ℤ
timestamp_in unit zoned text = in_unit unit (stamp_in zoned text)

-- the time of a day that a text says
abbrev pub time_said : TimeUnit → List ℕ → Option ℤ
time_said unit text = in_unit unit (time_in text)

-- ---- literals, in zeptoseconds, of which a nanosecond has 10^12

-- no byte, or one and up to 12 digits
abbrev pub is_more_form : List ℕ → Bool
is_more_form [] = true
is_more_form (first ∷ digits) = nat_le (length digits) 12 && list_all is_ascii_digit digits

-- the zeptoseconds that the digits after the ninth of a fraction say, in a text from the ninth on
unfoldable pub more_in : List ℕ → Option ℕ
more_in text = if is_more_form text then Some (1000000000 * three_digits text 1
    + (1000000 * three_digits text 4 + (1000 * three_digits text 7 + three_digits text 10)))
    else None

-- the zeptoseconds of nanoseconds and more
abbrev pub zeptos_of : Option ℤ → Option ℕ → Option ℤ
zeptos_of (Some nanos) (Some more) = Some (nanos *ℤ pos 1000000000000 +ℤ pos more)
zeptos_of _ _ = None

-- the zeptoseconds from 1970-01-01 00:00:00 to the moment that a text says: the first 29 bytes have
-- up to nine digits of its fraction
abbrev pub moment_zeptos : List ℕ → Option ℤ
moment_zeptos text = if nat_le (length text) 29 then zeptos_of (moment_in text) (Some 0)
    else zeptos_of (moment_in (take 29 text)) (more_in (drop 28 text))

-- the zeptoseconds from then to the moment that the text of a literal says, which may end with Z
abbrev pub zeptos_said : List ℕ → Option ℤ
zeptos_said text = if ends_with_zone text then moment_zeptos (take (length text - 1) text)
    else moment_zeptos text

-- the zeptoseconds since a day began that a text says: the first 18 bytes have up to nine digits
abbrev pub time_zeptos : List ℕ → Option ℤ
time_zeptos text = if nat_le (length text) 18 then zeptos_of (time_in text) (Some 0)
    else zeptos_of (time_in (take 18 text)) (more_in (drop 17 text))
