-- Each step keeps the rule of the claim word.
use Rattle.std.proofs.Common.{◌≡◌, ℕ, zero, suc, ◌+◌, ◌%◌, ◌^◌, ◌==◌, Bool, true, false, List, [], ◌∷◌, ◌++◌, length, set, refl, sym, ap, ◌∙◌, arith, length-append}
use Rattle.std.specs.Prelude.{slice_index}
use Rattle.std.proofs.lemmas.Bool.Decides.{nat_tests}
use mathlib.Core.Option.{none, some, some-injective, some-ne-none}
use lib.ListN.{get_elem?}
use lib.Dec.{ltb}
use Rattle.atomic_table.specs.Table.{Allows, Splits, step, keeps}
use Rattle.scan_workers.specs.Claims.{one_where, times, list_total, IsClaimed, DrewMorsel}

-- the total after a change of one list
total_set : (f : List ℕ → ℕ) (lists : List (List ℕ)) (seat : ℕ) (v w : List ℕ) → get_elem? lists seat ≡ some v → list_total f (set lists seat w) + f v ≡ list_total f lists + f w
total_set f [] seat v w e = absurd (some-ne-none v (sym e))
total_set f (u ∷ us) zero v w e = let s : f u ≡ f v = ap f (some-injective u v e) in omega (arith, s)
total_set f (u ∷ us) (suc seat) v w e = omega (arith, total_set f us seat v w e)

-- the total with one list more
total_snoc : (f : List ℕ → ℕ) (lists : List (List ℕ)) (w : List ℕ) → list_total f (lists ++ w ∷ []) ≡ list_total f lists + f w
total_snoc f [] w = omega arith
total_snoc f (u ∷ us) w = omega (arith, total_snoc f us w)

times-append : (n : ℕ) (xs ys : List ℕ) → times n (xs ++ ys) ≡ times n xs + times n ys
times-append n [] ys = omega arith
times-append n (x ∷ xs) ys = omega (arith, times-append n xs ys)

-- one number more is below the word
once_more : (n word : ℕ) → one_where (ltb n (word + 1)) ≡ one_where (ltb n word) + one_where (word == n)
once_more n word = by_cases (ltb n word) (ltb n (word + 1)) (word == n) refl refl refl
  where
    by_cases : (a b c : Bool) → ltb n word ≡ a → ltb n (word + 1) ≡ b → (word == n) ≡ c → one_where b ≡ one_where a + one_where c
    by_cases true true true p q r = absurd (grind (arith, nat_tests))
    by_cases true true false p q r = refl
    by_cases true false true p q r = absurd (grind (arith, nat_tests))
    by_cases true false false p q r = absurd (grind (arith, nat_tests))
    by_cases false true true p q r = refl
    by_cases false true false p q r = absurd (grind (arith, nat_tests))
    by_cases false false true p q r = absurd (grind (arith, nat_tests))
    by_cases false false false p q r = refl

pub draws : (slots seat : ℕ) (v : List ℕ) (carried : List (ℕ × Unit {0})) → Allows IsClaimed slots seat (v, carried) 0 (λ n. (n + 1) % 2 ^ 64) (DrewMorsel (step slots 0 1 0 none) (v, carried))
draws slots seat v carried s h wide at small =
    let word = h.word in
    let w = v ++ word ∷ [] in
    let found : slice_index s.words 0 ≡ word = ap (λ ws. slice_index ws 0) h.words in
    let longer = total_set length s.views seat v w at in
    let grown : length w ≡ length v + 1 = omega (arith, length-append v (word ∷ [])) in (
      w,
      keeps,
      tt,
      record {
        word = (word + 1) % 2 ^ 64;
        words = rw (h.words) refl;
        drawn = λ few.
            let before = h.drawn (omega (arith, longer, grown, few)) in
            let next : (word + 1) % 2 ^ 64 ≡ word + 1 = omega (arith, longer, grown, few, before.0) in (
              omega (arith, longer, grown, before.0, next),
              λ n. let t = total_set (times n) s.views seat v w at in
                  let a = times-append n v (word ∷ []) in
                  let b = once_more n word in
                  let c = before.1 n in
                  rw next (omega (arith, t, a, b, c)),
            );
      },
      rw found refl,
    )

pub comes : (seat : ℕ) (v : List ℕ) → Splits IsClaimed seat v v []
comes seat v s h at =
    let views = set s.views seat v in
    let same : (f : List ℕ → ℕ) → f [] ≡ 0 → list_total f (views ++ [] ∷ []) ≡ list_total f s.views = λ f z. omega (arith, total_snoc f views [], total_set f s.views seat v v at, z) in
    let len = same length refl in
    record {
      word = h.word;
      words = h.words;
      drawn = λ few. let before = h.drawn (omega (arith, few, len)) in (before.0 ∙ sym len, λ n. same (times n) refl ∙ before.1 n);
    }
