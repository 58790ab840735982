use Rattle.std.proofs.Common.{ℕ, ◌∙◌}
use Rattle.std.specs.List.{range_with_len}
use Rattle.std.proofs.lemmas.Simd.{zip2_of_maps}
use Rattle.scan_base.specs.declared.comparison.Comparison.TheVariants.{GreaterOrEqual, LessOrEqual}
use Rattle.scan_base.specs.declared.predicate.Operand.{Operand}
use Rattle.scan_base.specs.declared.value.Value.{Value}
use Rattle.scan_base.specs.Comparison.{compared}
use Rattle.scan_base.specs.Predicate.{operand_value}
use Rattle.scan_base.specs.Truth.{truth_and}
use Rattle.kernels.specs.Parts.{cell_of}
use Rattle.kernels.proofs.operands.both_compared.Goals as goal

pub returns : goal.returns
returns c =
    let rows = c.args.rows.now in
    let bounds = c.args.bounds.now in
    let value : Operand ℕ → ℕ → Value = λ operand row. operand_value (cell_of rows row) operand in
    c.and-2.ensures
    ∙ zip2_of_maps truth_and
    (λ (row : ℕ). compared GreaterOrEqual (value c.args.operand.now row) (value bounds.low.now row))
    (λ (row : ℕ). compared LessOrEqual (value c.args.operand.now row) (value bounds.high.now row))
    (range_with_len rows.from rows.len) c.in_ok-mask.ensures c.in_ok-compare_leaf.ensures
