-- Where a text may be cut: after a run of ASCII.
use Rattle.std.proofs.Common.{◌≡◌, ◌<◌, ℕ, zero, suc, ◌+◌, Bool, true, false, cond, List, [], ◌∷◌, length, take, get_or, refl, add-one, arith}
use Rattle.std.specs.Char.{is_ascii_digit}
use Rattle.std.specs.List.{prefix_len, list_all}
use Rattle.std.specs.Str.{IsUtf8, IsCharBoundary}
use Rattle.std.proofs.lemmas.List.Sums.{prefix_len-le-length, prefix_len_passes}
use Rattle.std.proofs.lemmas.Str.{IsCharBoundary-start, IsCharBoundary-after_ascii}
use Rattle.std.proofs.lemmas.Bool.Decides.{nat_tests}
use Rattle.sql_text.specs.Standard.{continues_word}

pub run_cut : (p : ℕ → Bool) → ((b : ℕ) → p b ≡ true → b < 128) → (text : List ℕ) → IsUtf8 text → IsCharBoundary text (prefix_len p text)
run_cut p ascii text utf8 = go (prefix_len p text) refl
  where
    go : (n : ℕ) → prefix_len p text ≡ n → IsCharBoundary text n
    go zero e = IsCharBoundary-start text utf8
    go (suc k) e =
        let lt : k < length text = omega (arith, prefix_len-le-length p text) in
        let in_run : k < prefix_len p text = omega arith in
        rw (← add-one k) (IsCharBoundary-after_ascii text k utf8 lt (ascii (get_or text k 0) (prefix_len_passes p text k 0 in_run)))

pub word_ascii : (b : ℕ) → continues_word b ≡ true → b < 128
word_ascii b e = grind (arith, nat_tests)

pub digit_ascii : (b : ℕ) → is_ascii_digit b ≡ true → b < 128
digit_ascii b e = grind (arith, nat_tests)

pub word_cut : (text : List ℕ) → IsUtf8 text → IsCharBoundary text (prefix_len continues_word text)
word_cut text utf8 = run_cut continues_word word_ascii text utf8

pub digits_cut : (text : List ℕ) → IsUtf8 text → IsCharBoundary text (prefix_len is_ascii_digit text)
digits_cut text utf8 = run_cut is_ascii_digit digit_ascii text utf8

-- all of a run passes
pub run_passes : (p : ℕ → Bool) (text : List ℕ) → list_all p (take (prefix_len p text) text) ≡ true
run_passes p [] = refl
run_passes p (b ∷ text) = go (run_passes p text) (p b) refl
  where
    go : list_all p (take (prefix_len p text) text) ≡ true → (t : Bool) → p b ≡ t → list_all p (take (cond t (1 + prefix_len p text) 0) (b ∷ text)) ≡ true
    go more true e =
        let one_more : 1 + prefix_len p text ≡ suc (prefix_len p text) = omega arith in
        rw (one_more, e) more
    go more false e = refl
