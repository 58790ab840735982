-- The dates of days.
use Rattle.std.proofs.Common.{◌≡◌, ℕ, Bool, true, false, if◌then◌else◌, List, ℤ, pos, negsuc, Some, None, unsigned_abs, ◌<ℤ◌, refl, sym, ap, subst, ◌∙◌, arith, to_z, of_z, w32, w64, FitsSigned}
use Rattle.std.proofs.lemmas.Int.{ints}
use Rattle.jiff_core.specs.declared.civil.date.Date.{Date}
use Rattle.jiff_core.specs.Calendar.{days_from_civil, IsCivilDate}
use Rattle.jiff_core.proofs.DateLemmas.{civil}
use Rattle.jiff_core.proofs.SignedLemmas.{signed_arith, fits_between}
use Rattle.number_words.specs.Dates.{day_in}
use Rattle.number_words.specs.DateText.{date_text, has_date, date_of, date_within, DayReadsBack}
use Rattle.number_words.proofs.Numbers.{IsShownDate, date_is_shown, shown_is_epoch_day, false_if_not}
use Rattle.number_words.proofs.Texts.{date_of_is, text_reads}

-- a number above 0 is a natural one
pub natural : (z : ℤ) → pos 0 <ℤ z → z ≡ pos (unsigned_abs z)
natural (pos n) above = refl
natural (negsuc n) above = absurd (omega (arith, signed_arith))

-- a date of the years 1 to 9999, by its year as a natural number
pub is_shown : (d : Date) (n : ℕ) → d.year ≡ pos n → pos 0 <ℤ d.year → IsShownDate n d.month d.day
is_shown d n same late =
    let whole : IsCivilDate (pos n) d.month d.day = subst (λ (year : ℤ). IsCivilDate year d.month d.day) same (civil d) in
    let later : pos 0 <ℤ pos n = subst (λ (year : ℤ). pos 0 <ℤ year) same late in
    record { first = omega (arith, signed_arith, later); last = omega (arith, signed_arith, whole.0.1); civil = whole }

-- what a date makes, and that it reads back
pub is_as_date : (y m d : ℕ) (day : ℤ) (bytes : List ℕ) → IsShownDate y m d → days_from_civil (pos y) m d ≡ day → bytes ≡ date_text y m d → Some bytes ≡ date_within day
is_as_date y m d day bytes h same made =
    ap Some (made ∙ sym (date_of_is y m d h))
    ∙ sym (ap (λ (test : Bool). if test then Some (date_of (days_from_civil (pos y) m d)) else None) (date_is_shown y m d h))
    ∙ ap date_within same

pub reads_back : (y m d : ℕ) (day : ℤ) → IsShownDate y m d → days_from_civil (pos y) m d ≡ day → DayReadsBack day
reads_back y m d day h same = subst DayReadsBack same (λ _. ap day_in (date_of_is y m d h) ∙ text_reads y m d h)

-- any other day has none; nothing is to read back
pub is_no_date : (day : ℤ) → has_date day ≡ false → None ≡ date_within day
is_no_date day not = sym (ap (λ (test : Bool). if test then Some (date_of day) else None) not)

-- a day whose number has more than 32 bits is none of those years
pub not_within : (day : ℤ) → (FitsSigned w32 day → ⊥) → has_date day ≡ false
not_within day far = false_if_not (has_date day) (λ h.
    let ends = shown_is_epoch_day day h in
    far (fits_between w32 day (omega (arith, signed_arith, ends.0, ends.1), omega (arith, signed_arith, ends.0, ends.1))))

pub no_date : (day : ℤ) → has_date day ≡ false → DayReadsBack day
no_date day not is = absurd (let apart : true ≡ false = sym is ∙ not in cc)

-- a number is the same in 64 bits
pub same_number : (day wide : ℤ) → FitsSigned w32 day → wide ≡ to_z w32 (of_z w32 day) → to_z w64 (of_z w64 wide) ≡ day
same_number day wide fits same = omega (arith, ints)
