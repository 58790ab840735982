-- Timestamps and times of a day, as texts.
use Rattle.std.specs.Prelude.{ℕ, ◌+◌, ◌-◌, ◌/◌, ◌%◌, Bool, true, false, if◌then◌else◌, List, []}
use Rattle.std.specs.Prelude.{◌∷◌, ◌++◌, codes, ℤ, pos, unsigned_abs, Option, Some, None}
use Rattle.std.specs.Int.{int_div_euclid, int_rem_euclid}
use Rattle.std.specs.Str.{byte}
use Rattle.arrow_types.specs.declared.data_type.TimeUnit.{TimeUnit}
use Rattle.arrow_types.specs.declared.data_type.TimeUnit.TheVariants.{Second, Millisecond}
use Rattle.arrow_types.specs.declared.data_type.TimeUnit.TheVariants.{Microsecond, Nanosecond}
use Rattle.number_words.specs.Dates.{is_from_to}
use Rattle.number_words.specs.DateText.{date_of, has_date, in_two_digits}

-- ---- the time of a day

-- a number below 1000 in three digits
abbrev pub in_three_digits : ℕ → List ℕ
in_three_digits number = (byte "0" + number / 100) ∷ in_two_digits (number % 100)

-- the seconds of a day as hh:mm:ss
abbrev pub clock_text : ℕ → List ℕ
clock_text seconds = in_two_digits (seconds / 3600) ++ (byte ":"
    ∷ (in_two_digits (seconds / 60 % 60) ++ (byte ":" ∷ in_two_digits (seconds % 60))))

-- the parts of a second as a point and three, six or nine digits
abbrev pub millis_text : ℕ → List ℕ
millis_text millis = byte "." ∷ in_three_digits millis

abbrev pub micros_text : ℕ → List ℕ
micros_text micros = millis_text (micros / 1000) ++ in_three_digits (micros % 1000)

abbrev pub nanos_text : ℕ → List ℕ
nanos_text nanos = micros_text (nanos / 1000) ++ in_three_digits (nanos % 1000)

-- the time of a day in a unit as hh:mm:ss, and the digits of the unit after a point
abbrev pub time_text : TimeUnit → ℕ → List ℕ
time_text Second time = clock_text time
time_text Millisecond time = clock_text (time / 1000) ++ millis_text (time % 1000)
time_text Microsecond time = clock_text (time / 1000000) ++ micros_text (time % 1000000)
time_text Nanosecond time = clock_text (time / 1000000000) ++ nanos_text (time % 1000000000)

-- how many of a unit a day has
abbrev pub per_day : TimeUnit → ℕ
per_day Second = 86400
per_day Millisecond = 86400000
per_day Microsecond = 86400000000
per_day Nanosecond = 86400000000000

-- whether a number is a time of a day
abbrev pub is_time : TimeUnit → ℤ → Bool
is_time unit number = is_from_to (pos 0) (pos (per_day unit - 1)) number

-- the text of a time of a day
abbrev pub time_within : TimeUnit → ℤ → Option (List ℕ)
time_within unit number =
    if is_time unit number then Some (time_text unit (unsigned_abs number)) else None

-- ---- timestamps

-- the day of a timestamp, and the time since that day began
abbrev pub day_at : TimeUnit → ℤ → ℤ
day_at unit number = int_div_euclid number (pos (per_day unit))

abbrev pub time_at : TimeUnit → ℤ → ℕ
time_at unit number = unsigned_abs (int_rem_euclid number (pos (per_day unit)))

-- the text of a zone, which is UTC, or of none
abbrev pub zone_text : Bool → List ℕ
zone_text true = codes "Z"
zone_text false = []

-- a timestamp as a date, a space, a time and its zone
abbrev pub timestamp_text : TimeUnit → Bool → ℤ → List ℕ
timestamp_text unit zoned number = (date_of (day_at unit number)
    ++ (byte " " ∷ time_text unit (time_at unit number))) ++ zone_text zoned

-- the text of a timestamp, where its day is of the years 1 to 9999
abbrev pub timestamp_within : TimeUnit → Bool → ℤ → Option (List ℕ)
timestamp_within unit zoned number =
    if has_date (day_at unit number) then Some (timestamp_text unit zoned number) else None
