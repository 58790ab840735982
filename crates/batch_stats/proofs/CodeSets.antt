-- What sets of codes have.
use Rattle.std.proofs.Common.{◌≡◌, ◌<◌, ◌%◌, ◌⊎◌, ℕ, Bool, true, false, inl, inr, List, length, get_or, replicate, sym, ap, ◌∙◌, arith}
use Rattle.std.proofs.lemmas.Bool.{cases_lt}
use Rattle.std.proofs.lemmas.List.{get_or-replicate, get_or-set_other, get_or-set_same, get_or_past, length-set}
use Rattle.std.proofs.Math.ListN.{set}
use Rattle.batch_stats.specs.inside.CodeSets.{HasLast, HasMark}

-- at each place there is what was written, or what was there before
module _ {X : Type 0} (xs : List X) (at other : ℕ) (x d : X) where
  pub written_or_same : ((other ≡ at) × (get_or (set xs at x) other d ≡ x)) ⊎ (get_or (set xs at x) other d ≡ get_or xs other d)
  written_or_same = elim (cases_lt other at) [
    | inl below ↦ inr (get_or-set_other xs at other x d (λ e. omega (arith, below, e)))
    | inr above ↦ elim (cases_lt at other) [
      | inl past ↦ inr (get_or-set_other xs at other x d (λ e. omega (arith, past, e)))
      | inr upto ↦
          let same : other ≡ at = omega (arith, above, upto) in
          elim (cases_lt at (length xs)) [
            | inl there ↦ inl (same, ap (λ (k : ℕ). get_or (set xs at x) k d) same ∙ get_or-set_same xs at x d there)
            | inr behind ↦
                let long : length (set xs at x) ≡ length xs = length-set xs at x in
                inr (get_or_past (set xs at x) other d (omega (arith, long, same, behind)) ∙ sym (get_or_past xs other d (omega (arith, same, behind))))
          ]
    ]
  ]

-- with one code more among those that came last
pub last_more : (codes : List ℕ) (code other : ℕ) → HasLast (set codes (code % 2048) code) other → (other ≡ code) ⊎ HasLast codes other
last_more codes code other has = elim (written_or_same codes (code % 2048) (other % 2048) code 0) [
  | inl here ↦ inl (sym has ∙ here.1)
  | inr same ↦ inr (sym same ∙ has)
]

-- a set of one code
pub last_one : (code other : ℕ) → HasLast (replicate 2048 code) other → other ≡ code
last_one code other has = let low : other % 2048 < 2048 = omega arith in sym has ∙ get_or-replicate 2048 (other % 2048) code 0 low

-- with one mark more
pub mark_more : (marks : List Bool) (code other : ℕ) → HasMark (set marks code true) other → (other ≡ code) ⊎ HasMark marks other
mark_more marks code other has = elim (written_or_same marks code other true false) [
  | inl here ↦ inl here.0
  | inr same ↦ inr (sym same ∙ has)
]
