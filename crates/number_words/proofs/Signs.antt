-- Numbers of digits have no sign, and a text without a minus is one of digits alone.
use Rattle.std.proofs.Common.{◌≡◌, ◌≢◌, ◌==◌, ◌&&◌, ◌≤ℤ◌, ℕ, ℤ, pos, Bool, true, false, List, [], ◌∷◌, Option, Some, None, refl, sym, ap, subst, inl, inr, arith, if◌then◌else◌}
use Rattle.std.specs.Prelude.{IfSome, slice_index}
use Rattle.std.specs.Str.{byte}
use Rattle.std.specs.Str.Parse.{digits_value}
use Rattle.std.proofs.lemmas.Bool.{cases_Bool, eqb-true}
use Rattle.jiff_core.proofs.SignedLemmas.{signed_arith}
use Rattle.sql_text.specs.Values.{are_digits, is_small, number_of}

no_sign : (b : Bool) (n : ℕ) → IfSome (if b then Some (pos n) else None) (λ number. pos 0 ≤ℤ number)
no_sign true n = omega (arith, signed_arith)
no_sign false n = tt

-- the value of digits is not below 0
pub unsigned : (text : List ℕ) (found : Option ℤ) → found ≡ number_of text → IfSome found (λ number. pos 0 ≤ℤ number)
unfolding number_of
unsigned text found e = subst (λ (o : Option ℤ). IfSome o (λ number. pos 0 ≤ℤ number)) (sym e) (no_sign (are_digits text && is_small text) (digits_value 10 text))

-- no minus stands in front
pub no_minus : (text : List ℕ) → ((rest : List ℕ) → text ≢ 45 ∷ rest) → (slice_index text 0 == byte "-") ≡ false
no_minus [] none = refl
no_minus (b ∷ rest) none = elim (cases_Bool (b == 45)) [
  | inl same ↦ absurd (none rest (ap (λ (n : ℕ). n ∷ rest) (eqb-true b 45 same)))
  | inr other ↦ other
]
