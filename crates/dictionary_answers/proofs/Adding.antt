-- What one value adds to the texts that were found.
use Rattle.std.proofs.Common.{◌≡◌, ◌≢◌, ◌<◌, ◌^◌, ℕ, ◌+◌, List, length, Some, None, true, false, nat_eq, refl, sym, ap, arith}
use Rattle.std.specs.Prelude.{slice_get}
use Rattle.std.proofs.lemmas.Bool.{ne_eqb}
use Rattle.std.proofs.lemmas.Option.{slice_get_within}
use Rattle.scan_base.specs.declared.value.Value.{Value}
use Rattle.scan_base.specs.declared.value.Value.TheVariants.{Null, Text}
use Rattle.dictionary_answers.specs.Firsts.{with_text, bytes_in, Leads}
use Rattle.dictionary_answers.specs.inside.CodedTexts.{held, no_place, DistinctTextsAt}
use Rattle.dictionary_answers.specs.inside.Coding.{Finds}
use Rattle.dictionary_answers.proofs.Places.{led_stays, few_with}

-- a number that is not the mark is a place
pub held_some : (place : ℕ) → place ≢ no_place → held place ≡ Some place
held_some place other = rw (ne_eqb place no_place other) refl

-- a text that was looked up
pub finds_text : (old new : DistinctTextsAt) (place : ℕ) (text : List ℕ) (value : Value) → length old.texts < 2 ^ 31 → new.texts ≡ with_text old.texts text →
    slice_get new.texts place ≡ Some text → bytes_in new.texts + new.left ≡ bytes_in old.texts + old.left → value ≡ Text text → Finds old new place value
finds_text old new place text value few texts there bytes is =
    let low = slice_get_within new.texts place text there in
    let small : place < 4294967295 = omega (arith, low, ap length texts, few_with old.texts text, few) in
    let other : place ≢ no_place = omega (arith, small) in
    let at : held place ≡ Some place = held_some place other in
    rw is (record { texts = texts; leads = rw at (text, there, refl); bytes = bytes })

-- a null
pub finds_null : (found : DistinctTextsAt) (value : Value) → value ≡ Null → Finds found found 4294967295 value
finds_null found value is = rw is (record { texts = refl; leads = refl; bytes = refl })

-- a value that is known
pub finds_known : (found : DistinctTextsAt) (place : ℕ) (value : Value) → place ≢ no_place → Leads found.texts (Some place) value → Finds found found place value
finds_known found place value other leads =
    let at : held place ≡ Some place = held_some place other in
    record { texts = sym (led_stays found.texts place value leads); leads = rw at leads; bytes = refl }

-- one that was kept
pub finds_kept : (found : DistinctTextsAt) (place : ℕ) (value : Value) → Leads found.texts (held place) value → Finds found found place value
finds_kept found place value leads = by (nat_eq place no_place) refl
  where
    by : (t : _) → nat_eq place no_place ≡ t → Finds found found place value
    by true e =
        let at : held place ≡ None = rw e refl in
        let null : value ≡ Null = rw at at leads in
        record { texts = rw null refl; leads = leads; bytes = refl }
    by false e =
        let at : held place ≡ Some place = rw e refl in
        record { texts = sym (led_stays found.texts place value (rw at at leads)); leads = leads; bytes = refl }
