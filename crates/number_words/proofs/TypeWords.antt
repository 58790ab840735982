-- The words of types.
use Rattle.std.proofs.Common.{◌≡◌, ◌≢◌, ◌+◌, ◌<◌, ◌∙◌, ℕ, true, false, List, length, get_or, ap, inl, inr, refl, arith}
use Rattle.std.specs.Prelude.{◌||◌, Bool, nat_le}
use Rattle.std.specs.Char.{is_ascii_digit}
use Rattle.std.specs.List.{list_all}
use Rattle.std.specs.Str.{byte}
use Rattle.std.proofs.lemmas.Bool.{cases_lt}
use Rattle.std.proofs.lemmas.List.{get_or_default}
use Rattle.arrow_types.specs.declared.data_type.IntegerType.TheVariants.{Int8, Int16, Int32, Int64, UInt8, UInt16, UInt32, UInt64}
use Rattle.arrow_types.specs.declared.data_type.NumberType.{NumberType}
use Rattle.arrow_types.specs.declared.data_type.NumberType.TheVariants.{Integer, Decimal, Date, Timestamp, Time, Duration}
use Rattle.arrow_types.specs.declared.data_type.TimeUnit.TheVariants.{Second, Millisecond, Microsecond, Nanosecond}
use Rattle.number_words.specs.declared.words.TheConstants.{TYPES}
use Rattle.number_words.specs.NumberTexts.{word}

-- a byte is a digit, or "_" or after it
abbrev pub is_plain : ℕ → Bool
is_plain b = is_ascii_digit b || nat_le (byte "_") b

-- each byte of a word is
pub plain_word : (kind : NumberType) → list_all is_plain (word kind) ≡ true
plain_word (Integer Int8) = refl
plain_word (Integer Int16) = refl
plain_word (Integer Int32) = refl
plain_word (Integer Int64) = refl
plain_word (Integer UInt8) = refl
plain_word (Integer UInt16) = refl
plain_word (Integer UInt32) = refl
plain_word (Integer UInt64) = refl
plain_word Decimal = refl
plain_word Date = refl
plain_word (Timestamp Second false) = refl
plain_word (Timestamp Millisecond false) = refl
plain_word (Timestamp Microsecond false) = refl
plain_word (Timestamp Nanosecond false) = refl
plain_word (Timestamp Second true) = refl
plain_word (Timestamp Millisecond true) = refl
plain_word (Timestamp Microsecond true) = refl
plain_word (Timestamp Nanosecond true) = refl
plain_word (Time Second) = refl
plain_word (Time Millisecond) = refl
plain_word (Time Microsecond) = refl
plain_word (Time Nanosecond) = refl
plain_word (Duration Second) = refl
plain_word (Duration Millisecond) = refl
plain_word (Duration Microsecond) = refl
plain_word (Duration Nanosecond) = refl

-- if none of the first types has the word, and the next has another, then none of one more has it
pub one_more : (types : List NumberType) (text : List ℕ) (i : ℕ) (first : NumberType) → i < length types → ((k : ℕ) (d : NumberType) → k < i → text ≢ word (get_or types k d))
    → text ≢ word (get_or types i first) → (k : ℕ) (d : NumberType) → k < i + 1 → text ≢ word (get_or types k d)
one_more types text i first low before next k d less = elim (cases_lt k i) [
  | inl lower ↦ before k d lower
  | inr reached ↦ let same : k ≡ i = omega arith in λ h. next (h ∙ ap word (ap (λ (n : ℕ). get_or types n d) same ∙ get_or_default types i d first low))
]

-- a text that is the word of none of them is that of no type
pub none_named : (text : List ℕ) → ((k : ℕ) (d : NumberType) → k < length TYPES → text ≢ word (get_or TYPES k d)) → (kind : NumberType) → text ≢ word kind
none_named text other (Integer Int8) = other 0 Date (omega arith)
none_named text other (Integer Int16) = other 1 Date (omega arith)
none_named text other (Integer Int32) = other 2 Date (omega arith)
none_named text other (Integer Int64) = other 3 Date (omega arith)
none_named text other (Integer UInt8) = other 4 Date (omega arith)
none_named text other (Integer UInt16) = other 5 Date (omega arith)
none_named text other (Integer UInt32) = other 6 Date (omega arith)
none_named text other (Integer UInt64) = other 7 Date (omega arith)
none_named text other Decimal = other 8 Date (omega arith)
none_named text other Date = other 9 Date (omega arith)
none_named text other (Timestamp Second false) = other 10 Date (omega arith)
none_named text other (Timestamp Millisecond false) = other 11 Date (omega arith)
none_named text other (Timestamp Microsecond false) = other 12 Date (omega arith)
none_named text other (Timestamp Nanosecond false) = other 13 Date (omega arith)
none_named text other (Timestamp Second true) = other 14 Date (omega arith)
none_named text other (Timestamp Millisecond true) = other 15 Date (omega arith)
none_named text other (Timestamp Microsecond true) = other 16 Date (omega arith)
none_named text other (Timestamp Nanosecond true) = other 17 Date (omega arith)
none_named text other (Time Second) = other 18 Date (omega arith)
none_named text other (Time Millisecond) = other 19 Date (omega arith)
none_named text other (Time Microsecond) = other 20 Date (omega arith)
none_named text other (Time Nanosecond) = other 21 Date (omega arith)
none_named text other (Duration Second) = other 22 Date (omega arith)
none_named text other (Duration Millisecond) = other 23 Date (omega arith)
none_named text other (Duration Microsecond) = other 24 Date (omega arith)
none_named text other (Duration Nanosecond) = other 25 Date (omega arith)
