-- Tables of where the values of a dictionary stand among texts.
use Rattle.std.proofs.Common.{◌≡◌, ℕ, List, get_or, Option, Some, cond, nat_eq, refl, ap, sym, ◌∙◌, inl, inr}
use Rattle.std.proofs.lemmas.Bool.{cases_eq, eq-eqb, ne_eqb}
use Rattle.scan_base.specs.declared.value.Value.{Value}
use Rattle.scan_base.specs.declared.value.Value.TheVariants.{Null}
use Rattle.dictionary_answers.specs.inside.CodedTexts.{held, DistinctTextsAt}
use Rattle.dictionary_answers.specs.inside.Coding.{Finds}
use Rattle.dictionary_answers.specs.inside.Table.{AreMet}
use Rattle.dictionary_answers.proofs.Places.{leads_behind}

-- a map where an index more was met
pub kept_met : (dictionary : List Value) (old new : DistinctTextsAt) (kept more : ℕ → Option ℕ) (index place : ℕ) → AreMet dictionary old.texts kept →
    Finds old new place (get_or dictionary index Null) → ((q : ℕ) → more q ≡ cond (nat_eq index q) (Some place) (kept q)) → AreMet dictionary new.texts more
kept_met dictionary old new kept more index place are finds updates at found e = elim (cases_eq index at) [
  | inl same ↦
      let is : more index ≡ Some place = updates index ∙ rw (eq-eqb index index refl) refl in
      let one : Some place ≡ Some found = sym is ∙ ap more same ∙ e in
      let p : place ≡ found = cc in
      rw (← same, ← p) finds.leads
  | inr other ↦
      let is : more at ≡ kept at = updates at ∙ rw (ne_eqb index at other) refl in
      rw finds.texts (leads_behind old.texts (get_or dictionary index Null) (held found) (get_or dictionary at Null) (are at found (sym is ∙ e)))
]
