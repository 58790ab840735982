-- The truth of a predicate is that of the cells that it names.
use Rattle.std.proofs.Common.{◌≡◌, ℕ, Bool, true, ◌&&◌, List, [], ◌∷◌, refl, ap, ◌∙◌}
use Rattle.std.specs.List.{list_all}
use Rattle.std.proofs.lemmas.Bool.{and_parts}
use Rattle.scan_base.specs.declared.comparison.Comparison.TheVariants.{Equal}
use Rattle.scan_base.specs.declared.predicate.Operand.{Operand}
use Rattle.scan_base.specs.declared.predicate.Operand.TheVariants.{Column, Literal}
use Rattle.scan_base.specs.declared.value.Value.{Value}
use Rattle.scan_base.specs.Comparison.{compared, nullness}
use Rattle.scan_base.specs.Predicate.{Pred, conjunction, disjunction, negation, truth_test, comparing, between, membership, null_test, constant, any_equal, operand_names, operand_value, names_only, truth_of, within}
use Rattle.scan_base.specs.Truth.{truth_and, truth_or, truth_not, truth_is, negated_if}

module _ (names : ℕ → Bool) (cell other : ℕ → Value) (same : (column : ℕ) → names column ≡ true → cell column ≡ other column) where
  same_operand : (operand : Operand ℕ) → operand_names names operand ≡ true → operand_value cell operand ≡ operand_value other operand
  same_operand (Column column) named = same column named
  same_operand (Literal value) named = refl

  same_items : (value : Value) (items : List (Operand ℕ)) → list_all (operand_names names) items ≡ true → any_equal cell value items ≡ any_equal other value items
  same_items value [] named = refl
  same_items value (item ∷ items) named =
      let both = and_parts (operand_names names item) (list_all (operand_names names) items) named in
      ap (λ v. truth_or (compared Equal value v) (any_equal cell value items)) (same_operand item both.0)
      ∙ ap (truth_or (compared Equal value (operand_value other item))) (same_items value items both.1)

  pub same_truth_of : (predicate : Pred ℕ) → names_only names predicate ≡ true → truth_of cell predicate ≡ truth_of other predicate
  same_truth_of (conjunction p q) named =
      let both = and_parts (names_only names p) (names_only names q) named in
      ap (λ t. truth_and t (truth_of cell q)) (same_truth_of p both.0) ∙ ap (truth_and (truth_of other p)) (same_truth_of q both.1)
  same_truth_of (disjunction p q) named =
      let both = and_parts (names_only names p) (names_only names q) named in
      ap (λ t. truth_or t (truth_of cell q)) (same_truth_of p both.0) ∙ ap (truth_or (truth_of other p)) (same_truth_of q both.1)
  same_truth_of (negation p) named = ap truth_not (same_truth_of p named)
  same_truth_of (truth_test negated tested p) named = ap (λ t. negated_if negated (truth_is t tested)) (same_truth_of p named)
  same_truth_of (comparing comparison a b) named =
      let both = and_parts (operand_names names a) (operand_names names b) named in
      ap (λ v. compared comparison v (operand_value cell b)) (same_operand a both.0)
      ∙ ap (compared comparison (operand_value other a)) (same_operand b both.1)
  same_truth_of (between negated a low high) named =
      let both = and_parts (operand_names names a) (operand_names names low && operand_names names high) named in
      let ends = and_parts (operand_names names low) (operand_names names high) both.1 in
      ap (λ v. negated_if negated (within v (operand_value cell low) (operand_value cell high))) (same_operand a both.0)
      ∙ ap (λ v. negated_if negated (within (operand_value other a) v (operand_value cell high))) (same_operand low ends.0)
      ∙ ap (λ v. negated_if negated (within (operand_value other a) (operand_value other low) v)) (same_operand high ends.1)
  same_truth_of (membership negated a items) named =
      let both = and_parts (operand_names names a) (list_all (operand_names names) items) named in
      ap (λ v. negated_if negated (any_equal cell v items)) (same_operand a both.0)
      ∙ ap (negated_if negated) (same_items (operand_value other a) items both.1)
  same_truth_of (null_test negated a) named = ap (λ v. negated_if negated (nullness v)) (same_operand a named)
  same_truth_of (constant truth) named = refl
