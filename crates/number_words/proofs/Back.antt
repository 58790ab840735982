-- What is printed of a number reads back.
use Rattle.std.proofs.Common.{◌≡◌, ◌==◌, ◌<◌, ◌^◌, ℕ, suc, ℤ, pos, negsuc, neg_ℤ, Bool, true, false, Option, Some, None, length, slice_index, IsTrue, if◌then◌else◌, refl, ap, ◌∙◌, arith, rules}
use Rattle.std.specs.Prelude.{nat_lt, not, option_map, unsigned_abs}
use Rattle.std.specs.Char.{is_ascii_digit}
use Rattle.std.specs.Fmt.{decimal, signed_decimal}
use Rattle.std.specs.List.{list_all}
use Rattle.std.specs.Str.{byte}
use Rattle.std.specs.Str.Parse.{digits_value}
use Rattle.std.proofs.lemmas.Bool.{ltb-true, ne_eqb}
use Rattle.std.proofs.lemmas.Bool.Decides.{nat_tests}
use Rattle.std.proofs.lemmas.Fmt.{decimal_is_IsNumeral_wide}
use Rattle.std.proofs.lemmas.Str.Parse.{IsNumeralModel, not_in_digits, numerals_by_value}
use Rattle.arrow_types.specs.declared.data_type.Cell.{Cell}
use Rattle.arrow_types.specs.declared.data_type.NumberType.{NumberType}
use Rattle.arrow_types.specs.declared.data_type.NumberType.TheVariants.{Integer, Decimal, Date, Timestamp, Time, Duration}
use Rattle.arrow_types.specs.DataType.{cell_of}
use Rattle.sql_text.specs.Values.{number_of}
use Rattle.number_words.specs.DateText.{DayReadsBack}
use Rattle.number_words.specs.WholeNumbers.{holds, kept_in, decimal_in}
use Rattle.number_words.specs.NumberTexts.{ReadsBack, day_number, is_sayable}
use Rattle.number_words.proofs.MomentTexts.{time_reads, timestamp_back}
use Rattle.number_words.proofs.Parts.{both}

own : IsNumeralModel (λ ds. list_all is_ascii_digit ds ≡ true) (digits_value 10)
own = numerals_by_value _ (search rules)

some : (n : ℕ) → 0 < n → not (n == 0) ≡ true
some n lt = grind (arith, nat_tests)

-- below 10^38 the digits of a number have its value
digits_back : (n : ℕ) → nat_lt n (10 ^ 38) ≡ true → number_of (decimal n) ≡ Some (pos n)
unfolding number_of
digits_back n low =
    let below : n < 10 ^ 38 = ltb-true n (10 ^ 38) low in
    let numeral = decimal_is_IsNumeral_wide n (omega arith) in
    rw (own.from (decimal n) numeral.0.1, some (length (decimal n)) numeral.0.0, numeral.1, low) refl

-- and begin with no minus
no_sign : (n : ℕ) → nat_lt n (10 ^ 38) ≡ true → (slice_index (decimal n) 0 == byte "-") ≡ false
no_sign n low =
    let below : n < 10 ^ 38 = ltb-true n (10 ^ 38) low in
    let numeral = decimal_is_IsNumeral_wide n (omega arith) in
    ne_eqb _ 45 (not_in_digits own (decimal n) 45 (own.from (decimal n) numeral.0.1) (λ inside. omega (arith, inside)) 0 numeral.0.0)

number_back : (number : ℤ) → nat_lt (unsigned_abs number) (10 ^ 38) ≡ true → decimal_in (signed_decimal number) ≡ Some number
number_back (pos n) low = rw (no_sign n low) (digits_back n low)
number_back (negsuc n) low = ap (option_map neg_ℤ) (digits_back (suc n) low)

kept : (cell : Cell) (number : ℤ) (found : Option ℤ) → IsTrue (holds cell number) → found ≡ Some number → kept_in cell found ≡ Some number
kept cell number found held is = ap (kept_in cell) is ∙ ap (λ (b : Bool). if b then Some number else None) held

pub reads_back : (kind : NumberType) (number : ℤ) → DayReadsBack (day_number kind number) → ReadsBack kind number
reads_back (Integer integer) number day fits = let parts = both _ _ fits in kept (cell_of (Integer integer)) number _ parts.0 (number_back number parts.1)
reads_back Decimal number day fits = let parts = both _ _ fits in kept (cell_of Decimal) number _ parts.0 (number_back number parts.1)
reads_back (Duration unit) number day fits = let parts = both _ _ fits in kept (cell_of (Duration unit)) number _ parts.0 (number_back number parts.1)
reads_back Date number day fits = let parts = both (holds (cell_of Date) number) (is_sayable Date number) fits in rw parts.1 (kept (cell_of Date) number _ parts.0 (day parts.1))
reads_back (Timestamp unit zoned) number day fits =
    let parts = both (holds (cell_of (Timestamp unit zoned)) number) (is_sayable (Timestamp unit zoned) number) fits in
    rw parts.1 (kept (cell_of (Timestamp unit zoned)) number _ parts.0 (timestamp_back unit zoned number day parts.1))
reads_back (Time unit) number day fits =
    let parts = both (holds (cell_of (Time unit)) number) (is_sayable (Time unit) number) fits in
    rw parts.1 (kept (cell_of (Time unit)) number _ parts.0 (time_reads unit number parts.1))
