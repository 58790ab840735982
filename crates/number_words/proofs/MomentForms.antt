-- What the forms of clocks and fractions say.
use Rattle.std.proofs.Common.{ℕ, zero, suc, ◌≡◌, ◌<◌, ◌≤◌, ◌==◌, ◌&&◌, nat_le, List, [], ◌∷◌, length, slice_index, slice_range, take, drop, IsTrue, Option, Some, ℤ, pos, true, false, ◌-◌, refl, subst, arith}
use Rattle.std.specs.Char.{is_ascii_digit}
use Rattle.std.specs.List.{list_all}
use Rattle.std.specs.Str.{byte}
use Rattle.std.proofs.Math.Seq.{take-length}
use Rattle.std.proofs.lemmas.Bool.{eqb-true}
use Rattle.std.proofs.lemmas.List.{length-drop}
use Rattle.number_words.specs.Dates.{day_in, two_stand}
use Rattle.number_words.specs.Moments.{clock_in, fraction_in, has_time, is_clock_form, is_fraction_form, is_more_form, moment_in, moment_of, more_in, moment_zeptos, time_in, time_zeptos, zeptos_of}
use Rattle.number_words.proofs.Parts.{both}

-- of a text of eight bytes with this form: its length, and where two digits stand
pub record HasClock (text : List ℕ) : Type 0 where
  pub long : length text ≡ 8
  pub hour : IsTrue (two_stand text 0)
  pub minute : IsTrue (two_stand text 3)
  pub second : IsTrue (two_stand text 6)

pub clock_parts : (text : List ℕ) → IsTrue (is_clock_form text) → HasClock text
clock_parts text form =
    let marks = (slice_index text 2 == byte ":") && (slice_index text 5 == byte ":") in
    let later = two_stand text 3 && two_stand text 6 in
    let whole = both (length text == 8) ((two_stand text 0 && later) && marks) form in
    let digits = both (two_stand text 0) later (both (two_stand text 0 && later) marks whole.1).0 in
    let last = both (two_stand text 3) (two_stand text 6) digits.1 in
    record { long = eqb-true (length text) 8 whole.0; hour = digits.0; minute = last.0; second = last.1 }

digit_there : (text : List ℕ) (at : ℕ) → IsTrue (list_all is_ascii_digit text) → at < length text → IsTrue (is_ascii_digit (slice_index text at))
digit_there [] at h low = absurd (omega arith)
digit_there (x ∷ text) zero h low = (both (is_ascii_digit x) (list_all is_ascii_digit text) h).0
digit_there (x ∷ text) (suc at) h low = digit_there text at (both (is_ascii_digit x) (list_all is_ascii_digit text) h).1 (omega arith)

-- of a text with digits after its first byte, what stands after that is a digit
pub digit_of : (text : List ℕ) (at : ℕ) → IsTrue (list_all is_ascii_digit (drop 1 text)) → 1 ≤ at → at < length text → IsTrue (is_ascii_digit (slice_index text at))
digit_of [] at digits after low = absurd (omega arith)
digit_of (x ∷ text) zero digits after low = absurd (omega arith)
digit_of (x ∷ text) (suc at) digits after low = digit_there text at digits (omega arith)

-- a fraction is such a text, and so are further digits
pub fraction_digits : (text : List ℕ) → IsTrue (is_fraction_form text) → IsTrue (list_all is_ascii_digit (drop 1 text))
fraction_digits [] form = refl
fraction_digits (x ∷ text) form =
    let long = nat_le 1 (length text) && nat_le (length text) 9 in
    (both long (list_all is_ascii_digit text) (both (x == byte ".") (long && list_all is_ascii_digit text) form).1).1

pub more_digits : (text : List ℕ) → IsTrue (is_more_form text) → IsTrue (list_all is_ascii_digit (drop 1 text))
more_digits [] form = refl
more_digits (x ∷ text) form = (both (nat_le (length text) 12) (list_all is_ascii_digit text) form).1

-- what the two parts of a long text say is what the text says
pub zeptos_by : (text : List ℕ) (nanos : Option ℤ) (more : Option ℕ) → nat_le (length text) 29 ≡ false → nanos ≡ moment_in (take 29 text) → more ≡ more_in (drop 28 text) →
    zeptos_of nanos more ≡ moment_zeptos text
zeptos_by text nanos more long n m = rw (long, n, m) refl

pub time_by : (text : List ℕ) (seconds nanos : Option ℕ) → nat_le 8 (length text) ≡ true → seconds ≡ clock_in (take 8 text) → nanos ≡ fraction_in (drop 8 text) →
    moment_of (Some (pos 0)) seconds nanos ≡ time_in text
unfolding time_in
time_by text seconds nanos long s n = rw (long, s, n) refl

pub time_zeptos_by : (text : List ℕ) (nanos : Option ℤ) (more : Option ℕ) → nat_le (length text) 18 ≡ false → nanos ≡ time_in (take 18 text) → more ≡ more_in (drop 17 text) →
    zeptos_of nanos more ≡ time_zeptos text
time_zeptos_by text nanos more long n m = rw (long, n, m) refl

-- a text from a byte to its end
pub to_its_end : (from : ℕ) (text : List ℕ) → take (length text - from) (drop from text) ≡ drop from text
to_its_end from text = subst (λ (n : ℕ). take n (drop from text) ≡ drop from text) (length-drop from text) (take-length (drop from text))

-- what the parts of a text say is what the text says
pub moment_by : (text : List ℕ) (day : Option ℤ) (seconds nanos : Option ℕ) → IsTrue (has_time text) → day ≡ day_in (take 10 text)
    → seconds ≡ clock_in (slice_range text 11 19) → nanos ≡ fraction_in (drop 19 text) → moment_of day seconds nanos ≡ moment_in text
unfolding moment_in
moment_by text day seconds nanos is d s n = rw (is, d, s, n) refl
