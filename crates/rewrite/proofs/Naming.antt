-- A predicate looks at the columns alone that it names.
use Rattle.std.proofs.Common.{◌≡◌, Bool, true, ◌&&◌, List, [], ◌∷◌, refl, ap, ◌∙◌}
use Rattle.std.specs.List.{list_all}
use Rattle.std.proofs.lemmas.Bool.{and_from, and_parts}
use Rattle.scan_base.specs.declared.predicate.Operand.{Operand}
use Rattle.scan_base.specs.declared.predicate.Operand.TheVariants as operand
use Rattle.scan_base.specs.declared.value.Value.{Value}
use Rattle.scan_base.specs.Comparison.{nullness}
use Rattle.scan_base.specs.Predicate.{Pred, conjunction, disjunction, negation, truth_test, comparing, between, membership, null_test, constant, truth_of, operand_value, any_equal, operand_names, names_only}
use Rattle.scan_base.specs.Truth.{truth_not, truth_is, negated_if}

-- two rows that agree in the columns of a test
module _ {C : Type 0} (test : C → Bool) (one other : C → Value) (same : (c : C) → test c ≡ true → one c ≡ other c) where
  operand_agrees : (o : Operand C) → operand_names test o ≡ true → operand_value one o ≡ operand_value other o
  operand_agrees (operand.Column column) h = same column h
  operand_agrees (operand.Literal value) h = refl

  items_agree : (value : Value) (items : List (Operand C)) → list_all (operand_names test) items ≡ true →
      any_equal one value items ≡ any_equal other value items
  items_agree value [] h = refl
  items_agree value (item ∷ items) h =
      let parts = and_parts (operand_names test item) (list_all (operand_names test) items) h in
      let here = operand_agrees item parts.0 in
      let there = items_agree value items parts.1 in
      cc

  -- give a predicate that names those alone one truth
  pub agrees : (p : Pred C) → names_only test p ≡ true → truth_of one p ≡ truth_of other p
  agrees (conjunction p q) h =
      let parts = and_parts (names_only test p) (names_only test q) h in
      let here = agrees p parts.0 in
      let there = agrees q parts.1 in
      cc
  agrees (disjunction p q) h =
      let parts = and_parts (names_only test p) (names_only test q) h in
      let here = agrees p parts.0 in
      let there = agrees q parts.1 in
      cc
  agrees (negation p) h = ap truth_not (agrees p h)
  agrees (truth_test negated tested p) h = ap (λ truth. negated_if negated (truth_is truth tested)) (agrees p h)
  agrees (comparing comparison a b) h =
      let parts = and_parts (operand_names test a) (operand_names test b) h in
      let here = operand_agrees a parts.0 in
      let there = operand_agrees b parts.1 in
      cc
  agrees (between negated o low high) h =
      let parts = and_parts (operand_names test o) (operand_names test low && operand_names test high) h in
      let more = and_parts (operand_names test low) (operand_names test high) parts.1 in
      let a = operand_agrees o parts.0 in
      let b = operand_agrees low more.0 in
      let c = operand_agrees high more.1 in
      cc
  agrees (membership negated o items) h =
      let parts = and_parts (operand_names test o) (list_all (operand_names test) items) h in
      ap (λ value. negated_if negated (any_equal one value items)) (operand_agrees o parts.0)
      ∙ ap (negated_if negated) (items_agree (operand_value other o) items parts.1)
  agrees (null_test negated o) h = ap (λ value. negated_if negated (nullness value)) (operand_agrees o h)
  agrees (constant truth) h = refl

-- a predicate that names columns of a test names those of a weaker one
module _ {C : Type 0} (strong weak : C → Bool) (so : (c : C) → strong c ≡ true → weak c ≡ true) where
  operand_weaker : (o : Operand C) → operand_names strong o ≡ true → operand_names weak o ≡ true
  operand_weaker (operand.Column column) h = so column h
  operand_weaker (operand.Literal value) h = refl

  items_weaker : (items : List (Operand C)) → list_all (operand_names strong) items ≡ true → list_all (operand_names weak) items ≡ true
  items_weaker [] h = refl
  items_weaker (item ∷ items) h =
      let parts = and_parts (operand_names strong item) (list_all (operand_names strong) items) h in
      and_from (operand_names weak item) (list_all (operand_names weak) items) (operand_weaker item parts.0) (items_weaker items parts.1)

  pub weaker : (p : Pred C) → names_only strong p ≡ true → names_only weak p ≡ true
  weaker (conjunction p q) h =
      let parts = and_parts (names_only strong p) (names_only strong q) h in
      and_from (names_only weak p) (names_only weak q) (weaker p parts.0) (weaker q parts.1)
  weaker (disjunction p q) h =
      let parts = and_parts (names_only strong p) (names_only strong q) h in
      and_from (names_only weak p) (names_only weak q) (weaker p parts.0) (weaker q parts.1)
  weaker (negation p) h = weaker p h
  weaker (truth_test negated tested p) h = weaker p h
  weaker (comparing comparison a b) h =
      let parts = and_parts (operand_names strong a) (operand_names strong b) h in
      and_from (operand_names weak a) (operand_names weak b) (operand_weaker a parts.0) (operand_weaker b parts.1)
  weaker (between negated o low high) h =
      let parts = and_parts (operand_names strong o) (operand_names strong low && operand_names strong high) h in
      let more = and_parts (operand_names strong low) (operand_names strong high) parts.1 in
      and_from (operand_names weak o) (operand_names weak low && operand_names weak high) (operand_weaker o parts.0)
      (and_from (operand_names weak low) (operand_names weak high) (operand_weaker low more.0) (operand_weaker high more.1))
  weaker (membership negated o items) h =
      let parts = and_parts (operand_names strong o) (list_all (operand_names strong) items) h in
      and_from (operand_names weak o) (list_all (operand_names weak) items) (operand_weaker o parts.0) (items_weaker items parts.1)
  weaker (null_test negated o) h = operand_weaker o h
  weaker (constant truth) h = refl
