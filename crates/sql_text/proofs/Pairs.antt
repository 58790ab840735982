-- Pairs of quotes, undone one by one.
use Rattle.std.proofs.Common.{◌∙◌, ◌-◌, ◌≡◌, ◌<◌, ◌≤◌, ℕ, zero, suc, ◌+◌, Bool, true, false, cond, List, [], ◌∷◌, ◌++◌, length, take, drop, get_or, Some, None, refl, sym, ap, arith}
use Rattle.std.specs.Prelude.{◌==◌, ◌&&◌}
use Rattle.std.specs.Prelude.{nat_le}
use Rattle.std.proofs.Math.Seq.{get_or-append_seam}
use Rattle.std.proofs.lemmas.List.{take_at}
use Rattle.std.proofs.lemmas.Bool.{eqb-true, eq-eqb, le-leb}
use Rattle.std.proofs.lemmas.List.{length-drop, length-append, length-take-le, get_or-drop}
use Rattle.std.specs.Str.{IsUtf8, IsCharBoundary}
use Rattle.std.proofs.lemmas.Str.{IsUtf8-drop, IsCharBoundary-after_ascii}
use Rattle.std.specs.List.{flat_map}
use Rattle.sql_text.specs.Values.{doubled, quoted, inside, undoubled, unquoted, pair_at}

pub pair_none : (quote at : ℕ) (bytes : List ℕ) → length bytes ≤ 1 → pair_at quote at bytes ≡ None
pair_none quote at [] le = refl
pair_none quote at (b ∷ []) le = refl
pair_none quote at (b ∷ c ∷ bytes) le = absurd (omega arith)

pub record Paired (quote at : ℕ) (bytes : List ℕ) (place : ℕ) : Type 0 where
  pub n : ℕ
  pub place_is : place ≡ at + n
  pub within : n + 1 < length bytes
  pub first : get_or bytes n 0 ≡ quote
  pub second : get_or bytes (suc n) 0 ≡ quote
  pub undone : undoubled quote bytes ≡ take (suc n) bytes ++ undoubled quote (drop (suc (suc n)) bytes)

further : (quote at b c : ℕ) (bytes : List ℕ) (place : ℕ) → ((b == quote) && (c == quote)) ≡ false → Paired quote (at + 1) (c ∷ bytes) place → Paired quote at (b ∷ c ∷ bytes) place
further quote at b c bytes place e h = record {
  n = suc h.n;
  place_is = omega (arith, h.place_is);
  within = omega (arith, h.within);
  first = h.first;
  second = h.second;
  undone = rw e (ap (λ (x : List ℕ). b ∷ x) h.undone);
}

pub paired_of : (quote at : ℕ) (bytes : List ℕ) (place : ℕ) → pair_at quote at bytes ≡ Some place → Paired quote at bytes place
paired_of quote at [] place e = absurd cc
paired_of quote at (b ∷ []) place e = absurd cc
paired_of quote at (b ∷ c ∷ bytes) place e = go (paired_of quote (at + 1) (c ∷ bytes) place) (b == quote) (c == quote) refl refl e
  where
    go : (pair_at quote (at + 1) (c ∷ bytes) ≡ Some place → Paired quote (at + 1) (c ∷ bytes) place) → (x y : Bool) → (b == quote) ≡ x → (c == quote) ≡ y
        → cond (x && y) (Some at) (pair_at quote (at + 1) (c ∷ bytes)) ≡ Some place → Paired quote at (b ∷ c ∷ bytes) place
    go more true true f g e =
        let here : at ≡ place = cc in
        let fb : b ≡ quote = eqb-true b quote f in
        record { n = 0; place_is = omega arith; within = omega arith; first = fb; second = eqb-true c quote g; undone = rw (f, g, fb) refl }
    go more true false f g e = further quote at b c bytes place (rw (f, g) refl) (more e)
    go more false y f g e = further quote at b c bytes place (rw f refl) (more e)

pub undoubled_none : (quote at : ℕ) (bytes : List ℕ) → pair_at quote at bytes ≡ None → undoubled quote bytes ≡ bytes
undoubled_none quote at [] e = refl
undoubled_none quote at (b ∷ []) e = refl
undoubled_none quote at (b ∷ c ∷ bytes) e = go (undoubled_none quote (at + 1) (c ∷ bytes)) ((b == quote) && (c == quote)) refl e
  where
    go : (pair_at quote (at + 1) (c ∷ bytes) ≡ None → undoubled quote (c ∷ bytes) ≡ c ∷ bytes) → (x : Bool) → ((b == quote) && (c == quote)) ≡ x
        → cond x (Some at) (pair_at quote (at + 1) (c ∷ bytes)) ≡ None → undoubled quote (b ∷ c ∷ bytes) ≡ b ∷ c ∷ bytes
    go more true f e = absurd cc
    go more false f e = rw f (ap (λ (x : List ℕ). b ∷ x) (more e))

-- ---- a text at its first pair of quotes

drop_one : (n : ℕ) (xs : List ℕ) → drop 1 (drop n xs) ≡ drop (suc n) xs
drop_one zero xs = refl
drop_one (suc n) [] = refl
drop_one (suc n) (x ∷ xs) = drop_one n xs

pub record PairFront (quote : ℕ) (rest : List ℕ) (at : ℕ) : Type 0 where
  pub cut : IsCharBoundary rest (at + 1)
  pub cut_one : IsCharBoundary (drop (at + 1) rest) 1
  pub undone : undoubled quote rest ≡ take (at + 1) rest ++ undoubled quote (drop 1 (drop (at + 1) rest))
  pub utf8 : IsUtf8 (drop 1 (drop (at + 1) rest))

pub pair_front : (quote at : ℕ) (rest : List ℕ) → quote < 128 → IsUtf8 rest → pair_at quote 0 rest ≡ Some at → PairFront quote rest at
pair_front quote at rest ascii utf8 e =
    let h = paired_of quote 0 rest at e in
    let n_is : h.n ≡ at = omega (arith, h.place_is) in
    let s : suc at ≡ at + 1 = omega arith in
    let within : at + 1 < length rest = rw (← n_is) h.within in
    let first : get_or rest at 0 < 128 = rw (← n_is, h.first) ascii in
    let place : (at + 1) + 0 ≡ suc h.n = omega (arith, n_is) in
    let second : get_or (drop (at + 1) rest) 0 0 < 128 = rw (get_or-drop (at + 1) rest 0 0, place, h.second) ascii in
    let cut = IsCharBoundary-after_ascii rest at utf8 (omega arith) first in
    let utf8_after = IsUtf8-drop rest (at + 1) utf8 cut in
    let cut_one = IsCharBoundary-after_ascii (drop (at + 1) rest) 0 utf8_after (omega (arith, length-drop (at + 1) rest)) second in
    let both : drop (suc (suc at)) rest ≡ drop 1 (drop (at + 1) rest) = sym (rw (← s) (drop_one (suc at) rest)) in
    record {
      cut = cut;
      cut_one = cut_one;
      undone = rw (← both, ← s, ← n_is) h.undone;
      utf8 = IsUtf8-drop (drop (at + 1) rest) 1 utf8_after cut_one;
    }

-- with one pair undone, the rest is that much shorter
pub pair_less : (quote at : ℕ) (rest : List ℕ) → pair_at quote 0 rest ≡ Some at
    → length (undoubled quote rest) + length (drop (at + 2) rest) + 1 ≡ length (undoubled quote (drop (at + 2) rest)) + length rest
pair_less quote at rest e =
    let h = paired_of quote 0 rest at e in
    let n_is : h.n ≡ at = omega (arith, h.place_is) in
    let s : suc (suc at) ≡ at + 2 = omega arith in
    let undone : undoubled quote rest ≡ take (suc at) rest ++ undoubled quote (drop (at + 2) rest) = rw (← s, ← n_is) h.undone in
    let within : at + 1 < length rest = rw (← n_is) h.within in
    omega (arith, ap length undone, length-append (take (suc at) rest) (undoubled quote (drop (at + 2) rest)), length-take-le (suc at) rest (omega arith), length-drop (at + 2) rest)

-- ---- what is written between quotes reads back

undoubled_plain : (quote b : ℕ) (bytes : List ℕ) → (b == quote) ≡ false → undoubled quote (b ∷ bytes) ≡ b ∷ undoubled quote bytes
undoubled_plain quote b [] e = refl
undoubled_plain quote b (c ∷ bytes) e = rw e refl

undoubled_doubled : (quote : ℕ) (value : List ℕ) → undoubled quote (flat_map (doubled quote) value) ≡ value
undoubled_doubled quote [] = refl
undoubled_doubled quote (b ∷ value) = go (undoubled_doubled quote value) (b == quote) refl
  where
    go : undoubled quote (flat_map (doubled quote) value) ≡ value → (x : Bool) → (b == quote) ≡ x → undoubled quote (doubled quote b ++ flat_map (doubled quote) value) ≡ b ∷ value
    go more true e =
        let same : b ≡ quote = eqb-true b quote e in
        let here : (quote == quote) ≡ true = eq-eqb quote quote refl in
        rw (same, here, here) (ap (λ (x : List ℕ). quote ∷ x) more)
    go more false e = rw e (undoubled_plain quote b (flat_map (doubled quote) value) e ∙ ap (λ (x : List ℕ). b ∷ x) more)

quoted_inside : (quote : ℕ) (value : List ℕ) → inside quote (quoted quote value) ≡ flat_map (doubled quote) value
quoted_inside quote value =
    let flat = flat_map (doubled quote) value in
    let text = quoted quote value in
    let len : length text ≡ length flat + 2 = omega (arith, length-append flat (quote ∷ [])) in
    let long : nat_le 2 (length text) ≡ true = le-leb 2 (length text) (omega (arith, len)) in
    let place : length text - 1 ≡ length (quote ∷ flat) = omega (arith, len) in
    let last : get_or text (length text - 1) 0 ≡ quote = rw place (get_or-append_seam (quote ∷ flat) quote [] 0) in
    let first : (quote == quote) ≡ true = eq-eqb quote quote refl in
    let size : (length text - 1) - 1 ≡ length flat = omega (arith, len) in
    let part : take ((length text - 1) - 1) (flat ++ (quote ∷ [])) ≡ flat = rw size (take_at flat (quote ∷ []) (length flat) refl) in
    rw (long, last, first) part

pub quoted_reads_back : (quote : ℕ) (value : List ℕ) → unquoted quote (quoted quote value) ≡ value
unfolding unquoted
quoted_reads_back quote value = ap (undoubled quote) (quoted_inside quote value) ∙ undoubled_doubled quote value
