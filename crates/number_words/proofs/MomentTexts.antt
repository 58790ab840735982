-- The text of a timestamp reads back.
use Rattle.std.proofs.Common.{◌≡◌, ℕ, ◌+◌, ◌-◌, ◌*◌, ◌/◌, ◌%◌, ◌<◌, ◌&&◌, Bool, true, false, if◌then◌else◌, List, [], ◌∷◌, ◌++◌, append_assoc, append-nil, length, take, slice_index, nat_le, IsTrue, Option, Some, None, option_map, ℤ, pos, negsuc, ◌≤ℤ◌, ◌+ℤ◌, ◌*ℤ◌, unsigned_abs, refl, ap, ◌∙◌, arith}
use Rattle.std.specs.Char.{is_ascii_digit}
use Rattle.std.specs.Int.{int_div_euclid, int_rem_euclid}
use Rattle.std.specs.Str.{byte}
use Rattle.std.proofs.lemmas.Bool.{le-leb, lt-ltb}
use Rattle.std.proofs.lemmas.List.{length-append}
use Rattle.jiff_core.proofs.SignedLemmas.{signed_arith}
use Rattle.arrow_types.specs.declared.data_type.TimeUnit.{TimeUnit}
use Rattle.arrow_types.specs.declared.data_type.TimeUnit.TheVariants.{Second, Millisecond, Microsecond, Nanosecond}
use Rattle.number_words.specs.Dates.{day_in, two_digits}
use Rattle.number_words.specs.DateText.{date_text, date_of, date_within, has_date, DayReadsBack}
use Rattle.number_words.specs.Moments.{is_clock_form, seconds_of, clock_in, is_fraction_form, three_digits, fraction_in, moment_of, moment_in, stamp_in, nanos_in, whole_in, in_unit, timestamp_in, time_in, time_said}
use Rattle.number_words.specs.MomentText.{clock_text, millis_text, micros_text, nanos_text, time_text, per_day, is_time, day_at, time_at, zone_text, timestamp_text, timestamp_within}
use Rattle.number_words.proofs.Parts.{from_to-parts}
use Rattle.number_words.proofs.Texts.{all, digit_stands, said, two_stand_there}

-- ---- the time of a day

clock_form : (s : ℕ) → s < 86400 → IsTrue (is_clock_form (clock_text s))
clock_form s h =
    all _ true (all _ _ (two_stand_there (s / 3600) (omega arith)) (all _ _ (two_stand_there (s / 60 % 60) (omega arith)) (two_stand_there (s % 60) (omega arith)))) refl

seconds_are : (hour minute second s : ℕ) → hour < 24 → minute < 60 → second < 60 → 3600 * hour + (60 * minute + second) ≡ s → seconds_of hour minute second ≡ Some s
seconds_are hour minute second s h m k e = rw (lt-ltb hour 24 h, lt-ltb minute 60 m, lt-ltb second 60 k) (ap Some e)

clock_in_form : (text : List ℕ) → IsTrue (is_clock_form text) → clock_in text ≡ seconds_of (two_digits text 0) (two_digits text 3) (two_digits text 6)
unfolding clock_in
clock_in_form text f = rw f refl

seconds_of_parts : (a b c x y z : ℕ) → a ≡ x → b ≡ y → c ≡ z → seconds_of a b c ≡ seconds_of x y z
seconds_of_parts a b c x y z p q r = rw (p, q, r) refl

clock_back : (s : ℕ) → s < 86400 → clock_in (clock_text s) ≡ Some s
clock_back s h =
    clock_in_form (clock_text s) (clock_form s h)
    ∙ seconds_of_parts _ _ _ (s / 3600) (s / 60 % 60) (s % 60) (said (s / 3600)) (said (s / 60 % 60)) (said (s % 60))
    ∙ seconds_are (s / 3600) (s / 60 % 60) (s % 60) s (omega arith) (omega arith) (omega arith) (omega arith)

-- ---- the fraction of a second

-- three digits stand there, and more
three_stand : (n : ℕ) (more : Bool) → n < 1000 → IsTrue more →
    IsTrue (is_ascii_digit (48 + n / 100) && (is_ascii_digit (48 + n % 100 / 10) && (is_ascii_digit (48 + n % 100 % 10) && more)))
three_stand n more h rest =
    all _ _ (digit_stands (n / 100) (omega arith)) (all _ _ (digit_stands (n % 100 / 10) (omega arith)) (all _ more (digit_stands (n % 100 % 10) (omega arith)) rest))

-- and say the number
three_said : (n : ℕ) → 100 * (48 + n / 100 - 48) + (10 * (48 + n % 100 / 10 - 48) + (48 + n % 100 % 10 - 48)) ≡ n
three_said n = omega arith

fraction_in_form : (text : List ℕ) → IsTrue (is_fraction_form text) → fraction_in text ≡ Some (1000000 * three_digits text 1 + (1000 * three_digits text 4 + three_digits text 7))
unfolding fraction_in
fraction_in_form text f = rw f refl

-- what the groups of three digits say
groups : (a b c x y z n : ℕ) → a ≡ x → b ≡ y → c ≡ z → 1000000 * x + (1000 * y + z) ≡ n → Some (1000000 * a + (1000 * b + c)) ≡ Some n
groups a b c x y z n p q r e = rw (p, q, r) (ap Some e)

millis_back : (m : ℕ) → m < 1000 → fraction_in (millis_text m) ≡ Some (m * 1000000)
millis_back m h =
    fraction_in_form (millis_text m) (three_stand m true h refl)
    ∙ groups _ _ _ m 0 0 (m * 1000000) (three_said m) refl refl (omega arith)

micros_back : (m : ℕ) → m < 1000000 → fraction_in (micros_text m) ≡ Some (m * 1000)
micros_back m h =
    fraction_in_form (micros_text m) (three_stand (m / 1000) _ (omega arith) (three_stand (m % 1000) true (omega arith) refl))
    ∙ groups _ _ _ (m / 1000) (m % 1000) 0 (m * 1000) (three_said (m / 1000)) (three_said (m % 1000)) refl (omega arith)

nanos_back : (n : ℕ) → n < 1000000000 → fraction_in (nanos_text n) ≡ Some n
nanos_back n h =
    let m = n / 1000 in
    fraction_in_form (nanos_text n) (three_stand (m / 1000) _ (omega arith) (three_stand (m % 1000) _ (omega arith) (three_stand (n % 1000) true (omega arith) refl)))
    ∙ groups _ _ _ (m / 1000) (m % 1000) (n % 1000) n (three_said (m / 1000)) (three_said (m % 1000)) (three_said (n % 1000)) (omega arith)

-- ---- a moment

moment_made : (day : Option ℤ) (seconds nanos : Option ℕ) (d : ℤ) (s f : ℕ) → day ≡ Some d → seconds ≡ Some s → nanos ≡ Some f →
    moment_of day seconds nanos ≡ Some (d *ℤ pos 86400000000000 +ℤ pos (s * 1000000000 + f))
moment_made day seconds nanos d s f p q r = rw (p, q, r) refl

-- a text of 19 bytes and more has the date, the clock and the fraction as its parts
moment_parts : (y m d s : ℕ) (fraction : List ℕ) → moment_in (date_text y m d ++ (byte " " ∷ (clock_text s ++ fraction)))
    ≡ moment_of (day_in (date_text y m d)) (clock_in (clock_text s)) (fraction_in fraction)
unfolding moment_in
moment_parts y m d s fraction =
    let text = date_text y m d ++ (byte " " ∷ (clock_text s ++ fraction)) in
    let long : nat_le 19 (length text) ≡ true = le-leb 19 (length text) (omega arith) in
    rw long refl

-- the seconds and the fraction of a time of a day
record Splits (unit : TimeUnit) (time : ℕ) : Type 0 where
  seconds : ℕ
  nanos : ℕ
  fraction : List ℕ
  low : seconds < 86400
  text : time_text unit time ≡ clock_text seconds ++ fraction
  back : fraction_in fraction ≡ Some nanos
  all : seconds * 1000000000 + nanos ≡ time * nanos_in unit

none_back : fraction_in [] ≡ Some 0
unfolding fraction_in
none_back = refl

splits : (unit : TimeUnit) (time : ℕ) → time < per_day unit → Splits unit time
splits Second t h = record { seconds = t; nanos = 0; fraction = []; low = h; text = refl; back = none_back; all = omega arith }
splits Millisecond t h = record {
  seconds = t / 1000;
  nanos = t % 1000 * 1000000;
  fraction = millis_text (t % 1000);
  low = omega arith;
  text = refl;
  back = millis_back (t % 1000) (omega arith);
  all = omega arith;
}
splits Microsecond t h = record {
  seconds = t / 1000000;
  nanos = t % 1000000 * 1000;
  fraction = micros_text (t % 1000000);
  low = omega arith;
  text = refl;
  back = micros_back (t % 1000000) (omega arith);
  all = omega arith;
}
splits Nanosecond t h = record {
  seconds = t / 1000000000;
  nanos = t % 1000000000;
  fraction = nanos_text (t % 1000000000);
  low = omega arith;
  text = refl;
  back = nanos_back (t % 1000000000) (omega arith);
  all = omega arith;
}

in_day : (unit : TimeUnit) (n : ℤ) → time_at unit n < per_day unit
in_day Second n = omega (arith, signed_arith)
in_day Millisecond n = omega (arith, signed_arith)
in_day Microsecond n = omega (arith, signed_arith)
in_day Nanosecond n = omega (arith, signed_arith)

-- a day and the time since it began make the timestamp
nanos_are : (unit : TimeUnit) (n : ℤ) → day_at unit n *ℤ pos 86400000000000 +ℤ pos (time_at unit n * nanos_in unit) ≡ n *ℤ pos (nanos_in unit)
nanos_are Second n = omega (arith, signed_arith)
nanos_are Millisecond n = omega (arith, signed_arith)
nanos_are Microsecond n = omega (arith, signed_arith)
nanos_are Nanosecond n = omega (arith, signed_arith)

-- the moment of the text of a day and a time
moment_back : (unit : TimeUnit) (n : ℤ) → DayReadsBack (day_at unit n) → IsTrue (has_date (day_at unit n)) →
    moment_in (date_of (day_at unit n) ++ (byte " " ∷ time_text unit (time_at unit n))) ≡ Some (n *ℤ pos (nanos_in unit))
moment_back unit n day is =
    let parts = splits unit (time_at unit n) (in_day unit n) in
    let made = moment_made (day_in (date_of (day_at unit n))) (clock_in (clock_text parts.seconds)) (fraction_in parts.fraction)
    (day_at unit n) parts.seconds parts.nanos (day is) (clock_back parts.seconds parts.low) parts.back in
    ap (λ (time : List ℕ). moment_in (date_of (day_at unit n) ++ (byte " " ∷ time))) parts.text
    ∙ moment_parts _ _ _ parts.seconds parts.fraction
    ∙ made
    ∙ ap (λ (nanos : ℕ). Some (day_at unit n *ℤ pos 86400000000000 +ℤ pos nanos)) parts.all
    ∙ ap Some (nanos_are unit n)

-- ---- a unit

whole_of : (k : ℕ) (m n : ℤ) → unsigned_abs (int_rem_euclid m (pos k)) ≡ 0 → int_div_euclid m (pos k) ≡ n → whole_in (pos k) m ≡ Some n
whole_of k m n e f = rw e (ap Some f)

whole_unit : (unit : TimeUnit) (n m : ℤ) → m ≡ n *ℤ pos (nanos_in unit) → in_unit unit (Some m) ≡ Some n
whole_unit Second n m e = whole_of 1000000000 m n (omega (arith, signed_arith)) (omega (arith, signed_arith))
whole_unit Millisecond n m e = whole_of 1000000 m n (omega (arith, signed_arith)) (omega (arith, signed_arith))
whole_unit Microsecond n m e = whole_of 1000 m n (omega (arith, signed_arith)) (omega (arith, signed_arith))
whole_unit Nanosecond n m e = whole_of 1 m n (omega (arith, signed_arith)) (omega (arith, signed_arith))

-- ---- a time of a day

time_parts : (s : ℕ) (fraction : List ℕ) → time_in (clock_text s ++ fraction) ≡ moment_of (Some (pos 0)) (clock_in (clock_text s)) (fraction_in fraction)
unfolding time_in
time_parts s fraction =
    let text = clock_text s ++ fraction in
    let long : nat_le 8 (length text) ≡ true = le-leb 8 (length text) (omega arith) in
    rw long refl

time_back : (unit : TimeUnit) (t : ℕ) → t < per_day unit → time_in (time_text unit t) ≡ Some (pos (t * nanos_in unit))
time_back unit t low =
    let parts = splits unit t low in
    ap time_in parts.text
    ∙ time_parts parts.seconds parts.fraction
    ∙ moment_made (Some (pos 0)) (clock_in (clock_text parts.seconds)) (fraction_in parts.fraction) (pos 0) parts.seconds parts.nanos refl (clock_back parts.seconds parts.low) parts.back
    ∙ ap (λ (nanos : ℕ). Some (pos 0 *ℤ pos 86400000000000 +ℤ pos nanos)) parts.all
    ∙ ap Some (omega (arith, signed_arith))

-- a number that is not below 0 is a natural one
natural : (n : ℤ) → pos 0 ≤ℤ n → pos (unsigned_abs n) ≡ n
natural (pos k) low = refl
natural (negsuc k) low = absurd (omega (arith, signed_arith))

natural_is : (unit : TimeUnit) (n : ℤ) → pos 0 ≤ℤ n → pos (unsigned_abs n * nanos_in unit) ≡ n *ℤ pos (nanos_in unit)
natural_is unit n low = ap (λ (m : ℤ). m *ℤ pos (nanos_in unit)) (natural n low)

natural_low : (unit : TimeUnit) (n : ℤ) → (pos 0 ≤ℤ n) × (n ≤ℤ pos (per_day unit - 1)) → unsigned_abs n < per_day unit
natural_low Second n ends = omega (arith, signed_arith, natural n ends.0, ends.1)
natural_low Millisecond n ends = omega (arith, signed_arith, natural n ends.0, ends.1)
natural_low Microsecond n ends = omega (arith, signed_arith, natural n ends.0, ends.1)
natural_low Nanosecond n ends = omega (arith, signed_arith, natural n ends.0, ends.1)

-- a time of a day is below a day
pub natural_in : (unit : TimeUnit) (n : ℤ) → IsTrue (is_time unit n) → unsigned_abs n < per_day unit
natural_in unit n is = natural_low unit n (from_to-parts (pos 0) (pos (per_day unit - 1)) n is)

pub time_reads : (unit : TimeUnit) (n : ℤ) → IsTrue (is_time unit n) → time_said unit (time_text unit (unsigned_abs n)) ≡ Some n
time_reads unit n is =
    let ends = from_to-parts (pos 0) (pos (per_day unit - 1)) n is in
    ap (in_unit unit) (time_back unit (unsigned_abs n) (natural_low unit n ends))
    ∙ whole_unit unit n (pos (unsigned_abs n * nanos_in unit)) (natural_is unit n ends.0)

-- ---- a zone

-- the last byte of a text, and those before it
last_byte : (xs : List ℕ) (z : ℕ) → slice_index (xs ++ z ∷ []) (length xs) ≡ z
last_byte [] z = refl
last_byte (x ∷ xs) z = last_byte xs z

front_bytes : (xs : List ℕ) (z : ℕ) → take (length xs) (xs ++ z ∷ []) ≡ xs
front_bytes [] z = refl
front_bytes (x ∷ xs) z = ap (λ (l : List ℕ). x ∷ l) (front_bytes xs z)

without_last : (xs : List ℕ) (z : ℕ) → length (xs ++ z ∷ []) - 1 ≡ length xs
without_last xs z = omega (arith, length-append xs (z ∷ []))

stamp_of : (text xs : List ℕ) (n : ℕ) → nat_le 1 (length text) ≡ true → length text - 1 ≡ n → slice_index text n ≡ byte "Z" → take n text ≡ xs →
    stamp_in true text ≡ moment_in xs
stamp_of text xs n some e f g = rw (some, e, f, g) refl

zone_back : (zoned : Bool) (xs : List ℕ) → stamp_in zoned (xs ++ zone_text zoned) ≡ moment_in xs
zone_back false xs = ap moment_in (append-nil xs)
zone_back true xs =
    let long = length-append xs (zone_text true) in
    stamp_of (xs ++ zone_text true) xs (length xs) (le-leb 1 (length (xs ++ zone_text true)) (omega arith)) (without_last xs 90) (last_byte xs 90) (front_bytes xs 90)

pub timestamp_back : (unit : TimeUnit) (zoned : Bool) (n : ℤ) → DayReadsBack (day_at unit n) → IsTrue (has_date (day_at unit n)) →
    timestamp_in unit zoned (timestamp_text unit zoned n) ≡ Some n
timestamp_back unit zoned n day is =
    ap (in_unit unit) (zone_back zoned (date_of (day_at unit n) ++ (byte " " ∷ time_text unit (time_at unit n))) ∙ moment_back unit n day is)
    ∙ whole_unit unit n (n *ℤ pos (nanos_in unit)) refl

-- ---- what is printed

-- a clock and a fraction, one after the other
pub then_fraction : (old clock fraction middle new : List ℕ) → middle ≡ old ++ clock → new ≡ middle ++ fraction → new ≡ old ++ (clock ++ fraction)
then_fraction old clock fraction middle new m n = n ∙ ap (λ (b : List ℕ). b ++ fraction) m ∙ append_assoc old clock fraction

with_time : (b : Bool) (text whole rest : List ℕ) → Some text ≡ (if b then Some whole else None) → Some (text ++ rest) ≡ (if b then Some (whole ++ rest) else None)
with_time true text whole rest is = ap (option_map (λ (day : List ℕ). day ++ rest)) is
with_time false text whole rest is = cc

-- the text of a day, a space, the text of a time and that of a zone are the text of a timestamp
pub printed : (unit : TimeUnit) (zoned : Bool) (n day : ℤ) (time : ℕ) (text spaced timed whole : List ℕ) → day ≡ day_at unit n → time ≡ time_at unit n
    → Some text ≡ date_within day → spaced ≡ text ++ (byte " " ∷ []) → timed ≡ spaced ++ time_text unit time → whole ≡ timed ++ zone_text zoned
    → Some whole ≡ timestamp_within unit zoned n
printed unit zoned n day time text spaced timed whole d t is s m w =
    let spaced_time : timed ≡ text ++ (byte " " ∷ time_text unit (time_at unit n))
    = m ∙ ap (λ (b : List ℕ). b ++ time_text unit time) s ∙ append_assoc text (byte " " ∷ []) (time_text unit time) ∙ ap (λ (x : ℕ). text ++ (byte " " ∷ time_text unit x)) t in
    ap Some (w ∙ ap (λ (b : List ℕ). b ++ zone_text zoned) spaced_time)
    ∙ with_time (has_date (day_at unit n)) (text ++ (byte " " ∷ time_text unit (time_at unit n))) (date_of (day_at unit n) ++ (byte " " ∷ time_text unit (time_at unit n))) (zone_text zoned)
    (with_time (has_date (day_at unit n)) text (date_of (day_at unit n)) (byte " " ∷ time_text unit (time_at unit n)) (is ∙ ap date_within d))
