-- What tests say of their parts.
use Rattle.std.proofs.Common.{◌≡◌, ℕ, ◌&&◌, ◌==◌, Bool, true, false, List, length, slice_index, IsTrue, ℤ, ◌≤ℤ◌, ◌<ℤ◌, refl, sym, arith}
use Rattle.std.specs.Int.RustNames.{int_le}
use Rattle.std.specs.Str.{byte}
use Rattle.std.proofs.lemmas.Bool.{eqb-true}
use Rattle.jiff_core.proofs.SignedLemmas.{signed_arith}
use borrow.Author.Differences.{true_is_le, false_is_le}
use Rattle.number_words.specs.Dates.{two_stand, is_date_form, is_from_to}

pub both : (a b : Bool) → IsTrue (a && b) → IsTrue a × IsTrue b
both true b h = (refl, h)
both false b h = (h, absurd (cc))

-- the parts of a date's form
pub record HasForm (text : List ℕ) : Type 0 where
  pub long : length text ≡ 10
  pub century : IsTrue (two_stand text 0)
  pub year : IsTrue (two_stand text 2)
  pub month : IsTrue (two_stand text 5)
  pub day : IsTrue (two_stand text 8)
  pub first : slice_index text 4 ≡ byte "-"
  pub second : slice_index text 7 ≡ byte "-"

pub form_parts : (text : List ℕ) → IsTrue (is_date_form text) → HasForm text
form_parts text h =
    let whole = both (length text == 10) _ h in
    let inner = both _ _ whole.1 in
    let digits = both _ _ inner.0 in
    let years = both _ _ digits.0 in
    let days = both _ _ digits.1 in
    let dashes = both _ _ inner.1 in
    record {
      long = eqb-true _ _ whole.0;
      century = years.0;
      year = years.1;
      month = days.0;
      day = days.1;
      first = eqb-true _ _ dashes.0;
      second = eqb-true _ _ dashes.1;
    }

pub int_le-true : (a b : ℤ) → a ≤ℤ b → IsTrue (int_le a b)
int_le-true a b h = sym (true_is_le a b (omega (arith, signed_arith)))

pub int_le-false : (a b : ℤ) → b <ℤ a → int_le a b ≡ false
int_le-false a b h = sym (false_is_le a b (omega (arith, signed_arith)))

pub from_to-parts : (low high number : ℤ) → IsTrue (is_from_to low high number) → (low ≤ℤ number) × (number ≤ℤ high)
from_to-parts low high number h =
    let parts = both (int_le low number) (int_le number high) h in
    (omega (arith, signed_arith), omega (arith, signed_arith))

pub from_to-true : (low high number : ℤ) → low ≤ℤ number → number ≤ℤ high → IsTrue (is_from_to low high number)
from_to-true low high number a b = rw (int_le-true low number a, int_le-true number high b)
