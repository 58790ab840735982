use Rattle.std.proofs.Common.{◌≡◌, ◌∙◌, ℕ, List, IfSome, map, ap, sym, subst}
use Rattle.scan_base.specs.declared.truth.Truth.{Truth}
use Rattle.scan_base.specs.declared.predicate.Operand.{Operand}
use Rattle.scan_base.specs.declared.predicate.Predicate.{Predicate}
use Rattle.scan_base.specs.Comparison.{nullness}
use Rattle.scan_base.specs.Predicate.{any_equal, operand_value, within}
use Rattle.scan_base.specs.Truth.{negated_if}
use Rattle.scan_base.specs.View.{pred_of}
use Rattle.kernels.specs.Parts.{cell_of, said_in}
use Rattle.kernels.specs.Rows.{truths_of}
use Rattle.kernels.proofs.Leaves.{turned_said}
use Rattle.kernels.proofs.leaf.plain_leaf.Goals as goal

pub returns-in_ok-mask-in-Between-clause-truths : goal.returns-in_ok-mask-in-Between-clause-truths
returns-in_ok-mask-in-Between-clause-truths c =
    let rows = c.args.rows.now in
    let b = c.in-Between in
    let test : ℕ → Truth = λ row. within (operand_value (cell_of rows row) b.operand) (operand_value (cell_of rows row) b.low) (operand_value (cell_of rows row) b.high) in
    c.not_if.ensures ∙ ap (map (negated_if b.negated)) c.in_ok-mask-in-Between.ensures ∙ turned_said (negated_if b.negated) test rows
    ∙ sym (ap (λ (p : Predicate ℕ). truths_of rows.columns.columns.now rows.columns.read.now (pred_of p) rows.from rows.len) b.is)

pub returns-in_ok-mask-in-In-clause-truths : goal.returns-in_ok-mask-in-In-clause-truths
returns-in_ok-mask-in-In-clause-truths c =
    let rows = c.args.rows.now in
    let b = c.in-In in
    let test : List (Operand ℕ) → ℕ → Truth = λ items row. any_equal (cell_of rows row) (operand_value (cell_of rows row) b.operand) items in
    c.not_if-in-In.ensures ∙ ap (map (negated_if b.negated)) c.in_ok-mask-in-In.ensures ∙ turned_said (negated_if b.negated) (test c.as_slice.result.now) rows
    ∙ ap (λ (items : List (Operand ℕ)). said_in (λ row. negated_if b.negated (test items row)) rows) c.as_slice.ensures
    ∙ sym (ap (λ (p : Predicate ℕ). truths_of rows.columns.columns.now rows.columns.read.now (pred_of p) rows.from rows.len) b.is)

pub returns-in_ok-null_leaf-in-IsNull-clause-truths : goal.returns-in_ok-null_leaf-in-IsNull-clause-truths
returns-in_ok-null_leaf-in-IsNull-clause-truths c =
    let rows = c.args.rows.now in
    let b = c.in-IsNull in
    let test : ℕ → Truth = λ row. nullness (operand_value (cell_of rows row) b.operand) in
    subst (λ (p : Predicate ℕ). IfSome c.turn_if.result (λ mask. mask ≡ truths_of rows.columns.columns.now rows.columns.read.now (pred_of p) rows.from rows.len)) (sym b.is)
    (subst (λ (l : List Truth). IfSome c.turn_if.result (λ mask. mask ≡ l)) (turned_said (negated_if b.negated) test rows)
    (c.turn_if.ensures (said_in test rows) c.in_ok-null_leaf-in-IsNull.ensures))
