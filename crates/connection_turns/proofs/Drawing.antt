-- Each step keeps the rule of the word.
use Rattle.std.proofs.Common.{◌≡◌, ◌≢◌, ℕ, zero, suc, ◌+◌, ◌-◌, ◌<◌, ◌≤◌, ◌==◌, Bool, true, false, List, [], ◌∷◌, ◌++◌, set, refl, sym, ap, ◌∙◌, ⊎_elim, arith}
use Rattle.std.specs.Prelude.{slice_index}
use Rattle.std.proofs.lemmas.Bool.Decides.{nat_tests}
use mathlib.Core.Option.{none, some, some-injective, some-ne-none}
use lib.ListN.{get_elem?}
use lib.Dec.{ltb}
use prog.Atomic.{either}
use Rattle.atomic_table.specs.Table.{State, Allows, Splits, Joins, step, keeps}
use Rattle.atomic_table.proofs.Lists.{at_set, at_snoc, exchanged}
use Rattle.connection_turns.specs.declared.rule.DrawerTally.{DrawerTally}
use Rattle.connection_turns.specs.declared.rule.Key.{Key}
use Rattle.connection_turns.specs.Rules.{drawer_tally, one_if, total_of, Idle, IdleIsEmpty, IsKept, Looked, Drew, Learnt}

-- the total after a change of one view
total_set : (f : DrawerTally → ℕ) (views : List DrawerTally) (seat : ℕ) (v w : DrawerTally) → get_elem? views seat ≡ some v → total_of f (set views seat w) + f v ≡ total_of f views + f w
total_set f [] seat v w e = absurd (some-ne-none v (sym e))
total_set f (u ∷ us) zero v w e = let s : f u ≡ f v = ap f (some-injective u v e) in omega (arith, s)
total_set f (u ∷ us) (suc seat) v w e = omega (arith, total_set f us seat v w e)

total_snoc : (f : DrawerTally → ℕ) (views : List DrawerTally) (w : DrawerTally) → total_of f (views ++ w ∷ []) ≡ total_of f views + f w
total_snoc f [] w = omega arith
total_snoc f (u ∷ us) w = omega (arith, total_snoc f us w)

total_least : (f : DrawerTally → ℕ) (views : List DrawerTally) (seat : ℕ) (v : DrawerTally) → get_elem? views seat ≡ some v → f v ≤ total_of f views
total_least f [] seat v e = absurd (some-ne-none v (sym e))
total_least f (u ∷ us) zero v e = let s : f u ≡ f v = ap f (some-injective u v e) in omega (arith, s)
total_least f (u ∷ us) (suc seat) v e = omega (arith, total_least f us seat v e)

idle_set : (views : List DrawerTally) (seat : ℕ) (w : DrawerTally) → (w.parts ≡ 0 → Idle w) → IdleIsEmpty views → IdleIsEmpty (set views seat w)
idle_set views seat w mine idle j u e nil =
    ⊎_elim
    (λ (t : (j ≡ seat) × (w ≡ u)). let m : Idle w = mine (ap (λ (z : DrawerTally). z.parts) t.1 ∙ nil) in
    record { drawn = sym (ap (λ (z : DrawerTally). z.drawn) t.1) ∙ m.drawn; ended = sym (ap (λ (z : DrawerTally). z.ended) t.1) ∙ m.ended })
    (λ (t : (j ≢ seat) × (get_elem? views j ≡ some u)). idle j u t.1 nil)
    (at_set views seat j w u e)

-- a step that changes the word and one view keeps the rule
changes : (key : Key) (s : State (Unit {0}) DrawerTally) (h : IsKept key s) (seat : ℕ) (v w : DrawerTally) (next : ℕ) → get_elem? s.views seat ≡ some v → 0 < v.parts
    → w.parts ≡ v.parts → next + w.drawn ≡ h.left + v.drawn → next ≤ h.left → (v.ended < w.ended → next ≡ 0)
    → IsKept key (record { words = set s.words 0 next; homes = s.homes; views = set s.views seat w })
changes key s h seat v w next at some_part same balance less fresh = record {
  left = next;
  words = rw (h.words) refl;
  parts = omega (arith, total_set (λ u. u.parts) s.views seat v w at, h.parts, same);
  drawn = omega (arith, total_set (λ u. u.drawn) s.views seat v w at, h.drawn, balance);
  ended = λ some_end. by_case (ltb v.ended w.ended) refl some_end;
  idle = idle_set s.views seat w (λ nil. absurd (omega (arith, nil, same, some_part))) h.idle;
}
  where
    by_case : (b : Bool) → ltb v.ended w.ended ≡ b → 0 < total_of (λ u. u.ended) (set s.views seat w) → next ≡ 0
    by_case true e some_end = fresh (grind (arith, nat_tests))
    by_case false e some_end =
        let le : w.ended ≤ v.ended = grind (arith, nat_tests) in
        let before : h.left ≡ 0 = h.ended (omega (arith, total_set (λ u. u.ended) s.views seat v w at, le, some_end)) in
        omega (arith, before, less)

-- where 0 is found, and so an end is told, nothing is left
none_left : (n ended : ℕ) (b : Bool) → (n == 0) ≡ b → ended < ended + one_if b → n ≡ 0
none_left n ended true is more = grind (arith, nat_tests)
none_left n ended false is more = absurd (omega (arith, more))

pub looks : (key : Key) (slots seat : ℕ) (v : DrawerTally) (carried : List (ℕ × Unit {0})) → 0 < v.parts
    → Allows (IsKept key) slots seat (v, carried) 0 (λ n. n) (Looked (step slots 0 0 0 none) (v, carried))
looks key slots seat v carried some_part s h wide at small =
    let found : slice_index s.words 0 ≡ h.left = ap (λ ws. slice_index ws 0) h.words in
    let w = drawer_tally v.parts v.drawn (v.ended + one_if (h.left == 0)) in
    rw found (w, keeps, tt, changes key s h seat v w h.left at some_part refl refl (omega arith) (none_left h.left v.ended (h.left == 0) refl), refl)

-- the word after an exchange, and what it took
taken : (n left : ℕ) → 0 < left → (b : Bool) → (n == left) ≡ b → (either b (left - 1) n + one_if b ≡ n) × (either b (left - 1) n ≤ n)
taken n left some_left true is = let here : n ≡ left = grind (arith, nat_tests) in (omega (arith, here, some_left), omega (arith, here))
taken n left some_left false is = (omega arith, omega arith)

pub draws : (key : Key) (slots seat : ℕ) (v : DrawerTally) (carried : List (ℕ × Unit {0})) (left : ℕ) → 0 < v.parts → 0 < left
    → Allows (IsKept key) slots seat (v, carried) 0 (λ n. either (n == left) (left - 1) n) (Drew (step slots 0 left (left - 1) none) (v, carried))
draws key slots seat v carried left some_part some_left s h wide at small =
    let found : slice_index s.words 0 ≡ h.left = ap (λ ws. slice_index ws 0) h.words in
    let w = drawer_tally v.parts (v.drawn + one_if (h.left == left)) v.ended in
    let next = either (h.left == left) (left - 1) h.left in
    let t = taken h.left left some_left (h.left == left) refl in
    rw found (w, keeps, tt, changes key s h seat v w next at some_part refl (omega (arith, t.0)) t.1 (λ more. absurd (omega (arith, more))), refl)

pub cuts : (key : Key) (seat : ℕ) (v : DrawerTally) → 1 < v.parts → Splits (IsKept key) seat v (drawer_tally (v.parts - 1) v.drawn v.ended) (drawer_tally 1 0 0)
cuts key seat v more s h at =
    let w = drawer_tally (v.parts - 1) v.drawn v.ended in
    let one = drawer_tally 1 0 0 in
    let views = set s.views seat w in
    let same : (f : DrawerTally → ℕ) → f w + f one ≡ f v → total_of f (views ++ one ∷ []) ≡ total_of f s.views = λ f e. omega (arith, total_snoc f views one, total_set f s.views seat v w at, e) in
    let drawn = same (λ u. u.drawn) (omega arith) in
    let ended = same (λ u. u.ended) (omega arith) in
    record {
      left = h.left;
      words = h.words;
      parts = same (λ u. u.parts) (omega (arith, more)) ∙ h.parts;
      drawn = omega (arith, drawn, h.drawn);
      ended = λ some_end. h.ended (omega (arith, ended, some_end));
      idle = λ j u e nil.
          ⊎_elim
          (λ (here : get_elem? views j ≡ some u). idle_set s.views seat w (λ z. absurd (omega (arith, z, more))) h.idle j u here nil)
          (λ (new : one ≡ u). record { drawn = sym (ap (λ (z : DrawerTally). z.drawn) new); ended = sym (ap (λ (z : DrawerTally). z.ended) new) })
          (at_snoc views one u j e);
    }

pub joins : (key : Key) (seat : ℕ) (v : DrawerTally) (other : ℕ) (u : DrawerTally) → Joins (IsKept key) seat v other u (drawer_tally (v.parts + u.parts) (v.drawn + u.drawn) (v.ended + u.ended)) (drawer_tally 0 0 0)
joins key seat v other u s h at apart there =
    let w = drawer_tally (v.parts + u.parts) (v.drawn + u.drawn) (v.ended + u.ended) in
    let spent = drawer_tally 0 0 0 in
    let views = set s.views seat w in
    let same : (f : DrawerTally → ℕ) → f w + f spent ≡ f v + f u → total_of f (set views other spent) ≡ total_of f s.views = λ f e. omega (arith, total_set f views other u spent there, total_set f s.views seat v w at, e) in
    let drawn = same (λ z. z.drawn) (omega arith) in
    let ended = same (λ z. z.ended) (omega arith) in
    let theirs : u.parts ≡ 0 → Idle u = λ nil.
    ⊎_elim
    (λ (t : (other ≡ seat) × (w ≡ u)). absurd (apart t.0))
    (λ (t : (other ≢ seat) × (get_elem? s.views other ≡ some u)). h.idle other u t.1 nil)
    (at_set s.views seat other w u there) in
    let both : w.parts ≡ 0 → Idle w = λ nil.
    let mine = h.idle seat v at (omega (arith, nil)) in
    let other = theirs (omega (arith, nil)) in
    record { drawn = omega (arith, mine.drawn, other.drawn); ended = omega (arith, mine.ended, other.ended) } in
    record {
      left = h.left;
      words = h.words;
      parts = same (λ z. z.parts) (omega arith) ∙ h.parts;
      drawn = omega (arith, drawn, h.drawn);
      ended = λ some_end. h.ended (omega (arith, ended, some_end));
      idle = idle_set views other spent (λ _. record { drawn = refl; ended = refl }) (idle_set s.views seat w both h.idle);
    }

-- where one view has every part, the others add nothing
others_none : (f : DrawerTally → ℕ) (views : List DrawerTally) → ((w : DrawerTally) → Idle w → f w ≡ 0) → IdleIsEmpty views → total_of (λ v. v.parts) views ≡ 0 → total_of f views ≡ 0
others_none f [] z idle nil = refl
others_none f (u ∷ us) z idle nil =
    let here : u.parts ≡ 0 = omega (arith, nil) in
    omega (arith, z u (idle zero u refl here), others_none f us z (λ j v e. idle (suc j) v e) (omega (arith, nil)))

whole : (f : DrawerTally → ℕ) (views : List DrawerTally) (seat : ℕ) (v : DrawerTally) → ((w : DrawerTally) → Idle w → f w ≡ 0) → IdleIsEmpty views → get_elem? views seat ≡ some v → total_of (λ u. u.parts) views ≡ v.parts → total_of f views ≡ f v
whole f [] seat v z idle e all = absurd (some-ne-none v (sym e))
whole f (u ∷ us) zero v z idle e all =
    let s = some-injective u v e in
    omega (arith, ap f s, others_none f us z (λ j w at. idle (suc j) w at) (omega (arith, all, ap (λ (x : DrawerTally). x.parts) s)))
whole f (u ∷ us) (suc seat) v z idle e all =
    let le = total_least (λ x. x.parts) us seat v e in
    let here : u.parts ≡ 0 = omega (arith, all, le) in
    omega (arith, z u (idle zero u refl here), whole f us seat v z (λ j w at. idle (suc j) w at) e (omega (arith, all, here)))

pub learns : (key : Key) (slots seat : ℕ) (v : DrawerTally) (carried : List (ℕ × Unit {0})) (most : ℕ) → v.parts ≡ key.drawers + 1 → key.most ≡ most
    → Allows (IsKept key) slots seat (v, carried) 0 (λ n. either (n == most) most n) (Learnt (step slots 0 most most none) (v, carried))
learns key slots seat v carried most every is_most s h wide at small =
    let found : slice_index s.words 0 ≡ h.left = ap (λ ws. slice_index ws 0) h.words in
    let next = either (h.left == most) most h.left in
    let same : next ≡ h.left = exchanged h.left most most (λ m. m ≡ h.left) (λ e. sym e) (λ _. refl) in
    let all = h.parts ∙ sym every in
    let drawn = whole (λ u. u.drawn) s.views seat v (λ w i. i.drawn) h.idle at all in
    let ended = whole (λ u. u.ended) s.views seat v (λ w i. i.ended) h.idle at all in
    rw found (
      v,
      keeps,
      tt,
      changes key s h seat v v next at (omega (arith, every)) refl (omega (arith, same)) (omega (arith, same)) (λ more. absurd (omega (arith, more))),
      (refl, omega (arith, drawn, h.drawn, is_most), λ some_end. h.ended (omega (arith, ended, some_end))),
    )
