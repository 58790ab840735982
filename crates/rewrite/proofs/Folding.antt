-- A folded predicate keeps its truth.
use Rattle.std.proofs.Common.{◌≡◌, Bool, true, false, not, ◌&&◌, cond, List, [], ◌∷◌, refl, sym, ap, ◌∙◌}
use Rattle.std.specs.List.{list_all}
use Rattle.std.proofs.lemmas.Bool.{and_from, and_parts, true≢false}
use Rattle.scan_base.specs.declared.predicate.Operand.{Operand}
use Rattle.scan_base.specs.declared.predicate.Operand.TheVariants as operand
use Rattle.scan_base.specs.declared.value.Value.{Value}
use Rattle.scan_base.specs.declared.value.Value.TheVariants.{Null}
use Rattle.scan_base.specs.Comparison.{nullness}
use Rattle.scan_base.specs.Predicate.{Pred, conjunction, disjunction, negation, truth_test, comparing, between, membership, null_test, constant, truth_of, operand_value, any_equal, operand_names}
use Rattle.scan_base.specs.Truth.{truth_not, truth_is, negated_if}
use Rattle.rewrite.specs.FoldedPredicates.{names_none, folded_atom, folded, is_folded, is_atom, FoldingKeepsTruths, FoldedNamesColumns}

module _ {C : Type 0} (one other : C → Value) where
  operand_same : (o : Operand C) → operand_names (λ column. false) o ≡ true → operand_value one o ≡ operand_value other o
  operand_same (operand.Column column) h = absurd (true≢false (sym h))
  operand_same (operand.Literal value) h = refl

  items_same : (value : Value) (items : List (Operand C)) → list_all (operand_names (λ column. false)) items ≡ true →
      any_equal one value items ≡ any_equal other value items
  items_same value [] h = refl
  items_same value (item ∷ items) h =
      let parts = and_parts (operand_names (λ column. false) item) (list_all (operand_names (λ column. false)) items) h in
      let here = operand_same item parts.0 in
      let there = items_same value items parts.1 in
      cc

  -- an atom that names no column has one truth in every row
  atom_same : (p : Pred C) → is_atom p ≡ true → names_none p ≡ true → truth_of one p ≡ truth_of other p
  atom_same (comparing comparison a b) i h =
      let parts = and_parts (operand_names (λ column. false) a) (operand_names (λ column. false) b) h in
      let here = operand_same a parts.0 in
      let there = operand_same b parts.1 in
      cc
  atom_same (between negated o low high) i h =
      let parts = and_parts (operand_names (λ column. false) o) (operand_names (λ column. false) low && operand_names (λ column. false) high) h in
      let more = and_parts (operand_names (λ column. false) low) (operand_names (λ column. false) high) parts.1 in
      let a = operand_same o parts.0 in
      let b = operand_same low more.0 in
      let c = operand_same high more.1 in
      cc
  atom_same (membership negated o items) i h =
      let parts = and_parts (operand_names (λ column. false) o) (list_all (operand_names (λ column. false)) items) h in
      ap (λ value. negated_if negated (any_equal one value items)) (operand_same o parts.0)
      ∙ ap (negated_if negated) (items_same (operand_value other o) items parts.1)
  atom_same (null_test negated o) i h = ap (λ value. negated_if negated (nullness value)) (operand_same o h)
  atom_same (conjunction p q) i h = absurd (true≢false (sym i))
  atom_same (disjunction p q) i h = absurd (true≢false (sym i))
  atom_same (negation p) i h = absurd (true≢false (sym i))
  atom_same (truth_test negated tested p) i h = absurd (true≢false (sym i))
  atom_same (constant truth) i h = absurd (true≢false (sym i))

module _ {C : Type 0} (cell : C → Value) where
  atom_keeps : (p : Pred C) → is_atom p ≡ true → truth_of cell (folded_atom p) ≡ truth_of cell p
  atom_keeps p i = by (names_none p) refl
    where
      by : (b : Bool) → names_none p ≡ b → truth_of cell (cond b (constant (truth_of (λ column. Null) p)) p) ≡ truth_of cell p
      by true e = atom_same (λ column. Null) cell p i e
      by false e = refl

  pub folded_keeps : (p : Pred C) → truth_of cell (folded p) ≡ truth_of cell p
  folded_keeps (conjunction p q) = let a = folded_keeps p in let b = folded_keeps q in cc
  folded_keeps (disjunction p q) = let a = folded_keeps p in let b = folded_keeps q in cc
  folded_keeps (negation p) = ap truth_not (folded_keeps p)
  folded_keeps (truth_test negated tested p) = ap (λ truth. negated_if negated (truth_is truth tested)) (folded_keeps p)
  folded_keeps (constant truth) = refl
  folded_keeps (comparing comparison a b) = atom_keeps (comparing comparison a b) refl
  folded_keeps (between negated a low high) = atom_keeps (between negated a low high) refl
  folded_keeps (membership negated a items) = atom_keeps (membership negated a items) refl
  folded_keeps (null_test negated a) = atom_keeps (null_test negated a) refl

-- and each atom of it names a column
module _ {C : Type 0} where
  atom_names : (p : Pred C) → (is_folded p ≡ not (names_none p)) → is_folded (folded_atom p) ≡ true
  atom_names p is = by (names_none p) refl
    where
      by : (b : Bool) → names_none p ≡ b → is_folded (cond b (constant (truth_of (λ column. Null) p)) p) ≡ true
      by true e = refl
      by false e = is ∙ ap not e

  pub folded_names : (p : Pred C) → is_folded (folded p) ≡ true
  folded_names (conjunction p q) = and_from (is_folded (folded p)) (is_folded (folded q)) (folded_names p) (folded_names q)
  folded_names (disjunction p q) = and_from (is_folded (folded p)) (is_folded (folded q)) (folded_names p) (folded_names q)
  folded_names (negation p) = folded_names p
  folded_names (truth_test negated tested p) = folded_names p
  folded_names (constant truth) = refl
  folded_names (comparing comparison a b) = atom_names (comparing comparison a b) refl
  folded_names (between negated a low high) = atom_names (between negated a low high) refl
  folded_names (membership negated a items) = atom_names (membership negated a items) refl
  folded_names (null_test negated a) = atom_names (null_test negated a) refl

pub folding_keeps_truths : FoldingKeepsTruths
folding_keeps_truths predicate cell = folded_keeps cell predicate

pub folded_names_columns : FoldedNamesColumns
folded_names_columns predicate = folded_names predicate
