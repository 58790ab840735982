-- The value of digits, by the call that parses them.
use Rattle.std.proofs.Common.{◌≡◌, ◌<◌, ℕ, ◌^◌, ℤ, pos, Bool, true, false, List, [], ◌∷◌, length, Some, None, Result, Ok, Err, refl, sym, ap, ◌∙◌, arith, rules, to_z, of_z, ◌&&◌}
use Rattle.std.specs.Prelude.{not, ◌==◌, nat_lt, if◌then◌else◌}
use Rattle.std.proofs.lemmas.Int.{to_z-of_z}
use Rattle.std.proofs.lemmas.Bool.Decides.{nat_tests}
use Rattle.std.proofs.lemmas.Bool.{ltb-true}
use Rattle.std.specs.Int.{w128}
use lib.Signed.{lt_z}
use Rattle.std.specs.Char.{is_ascii_digit}
use Rattle.std.specs.List.{list_all}
use Rattle.std.specs.Str.Parse.{digits_value, ParsesSigned}
use Rattle.std.proofs.lemmas.Str.Parse.{IsNumeralModel, numerals_by_value, parse_signed_digits}
use Rattle.std.proofs.Common.{suc, ◌+◌, get_or, take, cond}
use Rattle.std.specs.List.{prefix_len}
use Rattle.sql_text.specs.Values.{number_of, is_small}
use Rattle.sql_text.proofs.Cuts.{run_passes}

own : IsNumeralModel (λ ds. list_all is_ascii_digit ds ≡ true) (digits_value 10)
own = numerals_by_value _ (search rules)

pub number_wrong : (text : List ℕ) → list_all is_ascii_digit text ≡ false → None ≡ number_of text
unfolding number_of
number_wrong text e = rw e refl

-- what is parsed of digits is their value, and they are no less than a sign and no more than the type holds
parsed : {E : Type 0} (text : List ℕ) (r : Result ℤ E) (z : ℤ) → ParsesSigned w128 10 text r → list_all is_ascii_digit text ≡ true → r ≡ Ok z
    → ((0 < length text) × (digits_value 10 text < 2 ^ 127)) × (z ≡ pos (digits_value 10 text))
parsed {E} text r z p digits e =
    let q : ParsesSigned {E = E} w128 10 text (Ok z) = rw e at p in
    parse_signed_digits own {E = E} w128 text (Ok z) q digits

some : (n : ℕ) → not (n == 0) ≡ true → 0 < n
some n e = grind (arith, nat_tests)

nonempty : (n : ℕ) → 0 < n → not (n == 0) ≡ true
nonempty n lt = grind (arith, nat_tests)

pub number_small : {E : Type 0} (text : List ℕ) (r : Result ℤ E) (z : ℤ) → ParsesSigned w128 10 text r → list_all is_ascii_digit text ≡ true → r ≡ Ok z
    → lt_z (to_z w128 (of_z w128 z)) (pos 100000000000000000000000000000000000000) ≡ true
    → Some (to_z w128 (of_z w128 z)) ≡ number_of text
unfolding number_of
number_small text r z p digits e small =
    let h = parsed text r z p digits e in
    let back : to_z w128 (of_z w128 z) ≡ z = to_z-of_z w128 z (rw h.1 (record { sfits = h.0.1 })) in
    let lt : nat_lt (digits_value 10 text) (10 ^ 38) ≡ true = rw (back, h.1) at small in
    rw (digits, nonempty (length text) h.0.0, lt) (ap Some (back ∙ h.1))

pub number_large : {E : Type 0} (text : List ℕ) (r : Result ℤ E) (z : ℤ) → ParsesSigned w128 10 text r → list_all is_ascii_digit text ≡ true → r ≡ Ok z
    → lt_z (to_z w128 (of_z w128 z)) (pos 100000000000000000000000000000000000000) ≡ false
    → None ≡ number_of text
unfolding number_of
number_large text r z p digits e small =
    let h = parsed text r z p digits e in
    let back : to_z w128 (of_z w128 z) ≡ z = to_z-of_z w128 z (rw h.1 (record { sfits = h.0.1 })) in
    let lt : nat_lt (digits_value 10 text) (10 ^ 38) ≡ false = rw (back, h.1) at small in
    rw (digits, nonempty (length text) h.0.0, lt) refl

-- digits that do not parse are none, or too many for the type
pub number_refused : {E : Type 0} (text : List ℕ) (r : Result ℤ E) (f : E) → ParsesSigned w128 10 text r → list_all is_ascii_digit text ≡ true → r ≡ Err f
    → None ≡ number_of text
unfolding number_of
number_refused {E} text r f p digits e =
    let q : ParsesSigned {E = E} w128 10 text (Err f) = rw e at p in
    let h = parse_signed_digits own {E = E} w128 text (Err f) q digits in
    go h (not (length text == 0)) (nat_lt (digits_value 10 text) (10 ^ 38)) refl refl
  where
    go : ¬ ((0 < length text) × (digits_value 10 text < 2 ^ 127)) → (a b : Bool) → not (length text == 0) ≡ a → nat_lt (digits_value 10 text) (10 ^ 38) ≡ b
        → None ≡ (if (list_all is_ascii_digit text && a) && b then Some (pos (digits_value 10 text)) else None)
    go h false b x y = rw digits refl
    go h true false x y = rw digits refl
    go h true true x y =
        let below : digits_value 10 text < 10 ^ 38 = ltb-true (digits_value 10 text) (10 ^ 38) y in
        absurd (h (some (length text) x, omega arith))

-- ---- digits at the front of a text

-- they are digits alone, so their value alone decides
front_value : (text : List ℕ) → is_ascii_digit (get_or text 0 0) ≡ true
    → number_of (take (prefix_len is_ascii_digit text) text) ≡ cond (is_small (take (prefix_len is_ascii_digit text) text)) (Some (pos (digits_value 10 (take (prefix_len is_ascii_digit text) text)))) None
unfolding number_of
front_value [] first = absurd cc
front_value (b ∷ text) first =
    let one_more : 1 + prefix_len is_ascii_digit text ≡ suc (prefix_len is_ascii_digit text) = omega arith in
    let there : not (length (take (prefix_len is_ascii_digit (b ∷ text)) (b ∷ text)) == 0) ≡ true = rw (first, one_more) (nonempty (suc (length (take (prefix_len is_ascii_digit text) text))) (omega arith)) in
    rw (run_passes is_ascii_digit (b ∷ text), there) refl

pub front_refused : (text : List ℕ) → is_ascii_digit (get_or text 0 0) ≡ true
    → number_of (take (prefix_len is_ascii_digit text) text) ≡ None → is_small (take (prefix_len is_ascii_digit text) text) ≡ false
front_refused text first e = go _ (is_small (take (prefix_len is_ascii_digit text) text)) (sym (front_value text first) ∙ e)
  where
    go : {A : Type 0} (x : A) (b : Bool) → cond b (Some x) None ≡ None → b ≡ false
    go x true e = absurd cc
    go x false e = refl

pub front_taken : (text : List ℕ) (x : ℤ) → is_ascii_digit (get_or text 0 0) ≡ true
    → number_of (take (prefix_len is_ascii_digit text) text) ≡ Some x → is_small (take (prefix_len is_ascii_digit text) text) ≡ true
front_taken text x first e = go _ x (is_small (take (prefix_len is_ascii_digit text) text)) (sym (front_value text first) ∙ e)
  where
    go : {A : Type 0} (x y : A) (b : Bool) → cond b (Some x) None ≡ Some y → b ≡ true
    go x y true e = refl
    go x y false e = absurd cc
