-- The number that an option's text says.
use Rattle.std.proofs.Common.{◌≡◌, ◌≤◌, ◌<◌, ◌^◌, ℕ, List, Option, Some, None, Result, Ok, Err, refl, arith, max, min, unwrap_or}
use Rattle.std.specs.Str.Parse.{ParsesUnsigned, digits_value, without_leading_plus}
use Rattle.clap.specs.Words.{Text}
use Rattle.clap.specs.Matches.{ReadsOne}
use Rattle.command_line.specs.declared.number.Numbers.{Numbers}
use Rattle.command_line.specs.Numbers.{SaysNumber}

-- a number that is within the bounds stays
stays : (least most n : ℕ) → least ≤ n → n ≤ most → max least (min n most) ≡ n
stays least most n low high = omega (arith, low, high)

-- what a getter reads of the option's text
pub says_number : {E : Type 0} (G : List ℕ → Result ℕ E → Type 0) → ((u : List ℕ) (x : Result ℕ E) → G u x → ParsesUnsigned 32 10 u x)
    → (numbers : Numbers) → numbers.least ≤ numbers.default → numbers.default ≤ numbers.most → numbers.most < 2 ^ 32
    → (text : Option Text) (read : Option ℕ) → (text ≡ None → read ≡ None) → ((t : Text) → text ≡ Some t → ReadsOne G t read)
    → SaysNumber numbers text (max numbers.least (min (unwrap_or read numbers.default) numbers.most))
says_number G parses numbers low high fits None read none some = rw (none refl) (stays numbers.least numbers.most numbers.default low high)
says_number G parses numbers low high fits (Some text) None none some = λ passed.
    let read = some text refl in
    let small : digits_value 10 (without_leading_plus text) < 2 ^ 32 = omega (arith, passed.3, fits) in
    absurd (parses text (Err read.0) read.1 (passed.0, small))
says_number G parses numbers low high fits (Some text) (Some n) none some = λ passed.
    let parsed = parses text (Ok n) (some text refl) in
    let is : n ≡ digits_value 10 (without_leading_plus text) = parsed.1 in
    rw is (stays numbers.least numbers.most (digits_value 10 (without_leading_plus text)) passed.2 passed.3)
