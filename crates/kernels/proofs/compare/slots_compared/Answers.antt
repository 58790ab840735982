use Rattle.std.proofs.Common.{◌≡◌, ℕ, List, IfOk, ap, subst, ◌∙◌}
use Rattle.std.specs.List.{range_with_len}
use Rattle.scan_base.specs.declared.truth.Truth.{Truth}
use Rattle.scan_base.specs.declared.comparison.Comparison.{Comparison}
use Rattle.scan_base.specs.Comparison.{compared}
use Rattle.arrays.specs.Column.{ColumnAt, slot_of}
use Rattle.kernels.proofs.Compared.{same_map}
use Rattle.kernels.proofs.compare.slots_compared.Goals as goal

pub returns : goal.returns
returns c =
    let left = c.args.left.now.column.now in
    let right = c.args.right.now.column.now in
    let pairs = c.pairs_of-pairs.result in
    let is = c.pairs_of-pairs.ensures in
    let f : ℕ → Truth = λ row. compared pairs.comparison (slot_of pairs.left.now row) (slot_of pairs.right.now row) in
    let g : ℕ → Truth = λ row. compared c.args.comparison (slot_of left row) (slot_of right row) in
    subst (λ (truths : List Truth). IfOk c.mask_by.result (λ mask. mask ≡ truths))
    (same_map f g (λ row.
    ap (λ (k : ColumnAt). compared pairs.comparison (slot_of k row) (slot_of pairs.right.now row)) is.left
    ∙ ap (λ (k : ColumnAt). compared pairs.comparison (slot_of left row) (slot_of k row)) is.right
    ∙ ap (λ (d : Comparison). compared d (slot_of left row) (slot_of right row)) is.comparison)
    (range_with_len c.args.left.now.from c.args.left.now.len))
    c.mask_by.ensures
