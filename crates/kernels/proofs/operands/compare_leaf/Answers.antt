use Rattle.std.proofs.Common.{◌≡◌, ℕ, List, IfOk, ap₂, subst, sym}
use Rattle.std.specs.List.{range_with_len}
use Rattle.scan_base.specs.declared.truth.Truth.{Truth}
use Rattle.scan_base.specs.Comparison.{compared}
use Rattle.scan_base.specs.Predicate.{operand_value}
use Rattle.scan_base.specs.Value.{value_of}
use Rattle.kernels.specs.Parts.{cell_of}
use Rattle.kernels.proofs.Compared.{same_map}
use Rattle.kernels.proofs.operands.compare_leaf.Goals as goal

pub returns-in-Value-Value : goal.returns-in-Value-Value
returns-in-Value-Value c =
    let rows = c.args.rows.now in
    let leaf = c.args.leaf.now in
    let values = c.in-Value-Value in
    let f : ℕ → Truth = λ row. compared leaf.comparison (value_of values.left) (value_of values.right) in
    let g : ℕ → Truth = λ row. compared leaf.comparison (operand_value (cell_of rows row) leaf.left.now) (operand_value (cell_of rows row) leaf.right.now) in
    subst (λ (truths : List Truth). IfOk c.values_compared.result (λ mask. mask ≡ truths))
    (same_map f g (λ row. ap₂ (compared leaf.comparison) (sym (values.ensures (cell_of rows row))) (sym (values.ensures' (cell_of rows row)))) (range_with_len rows.from rows.len))
    c.values_compared.ensures
