use Rattle.std.proofs.Common.{◌≡◌, ℕ, List, IfOk, IfSome, sym, subst, ◌∙◌}
use Rattle.scan_base.specs.declared.truth.Truth.{Truth}
use Rattle.scan_base.specs.declared.value.Value.{Value}
use Rattle.scan_base.specs.declared.predicate.Operand.{Operand}
use Rattle.scan_base.specs.Predicate.{any_equal, operand_value}
use Rattle.kernels.specs.Parts.{cell_of, said_in, said_of}
use Rattle.kernels.proofs.Leaves.{any_cell, found_then, part_said}
use Rattle.kernels.proofs.leaf.numbers_among.Goals as goal

pub returns-in-Some : goal.returns-in-Some
returns-in-Some c =
    let rows = c.args.rows.now in
    let items = c.args.items.now in
    let number = c.in-Some.number in
    let part = c.part.result in
    let column : Operand ℕ → ℕ → Value = λ operand row. operand_value (cell_of rows row) operand in
    subst (λ (operand : Operand ℕ). IfOk c.among_part.result (λ found. IfSome found (λ mask. mask
    ≡ said_in (λ row. any_equal (cell_of rows row) (operand_value (cell_of rows row) operand) items) rows))) (sym c.in-Some.ensures)
    (found_then
    (λ (mask : List Truth). (cell : ℕ → Value) → mask ≡ said_of (λ (value : Value). any_equal cell value items) part)
    (λ (mask : List Truth). mask ≡ said_in (λ (row : ℕ). any_equal (cell_of rows row) (cell_of rows row number) items) rows)
    c.among_part.result
    (λ mask had. any_cell (λ (cell : ℕ → Value) (row : ℕ). any_equal cell (cell_of rows row number) items) mask rows.from rows.len
    (λ cell. had cell ∙ part_said (λ (value : Value). any_equal cell value items) part rows number c.part.ensures.from c.part.ensures.len c.part.ensures.cells)
    (cell_of rows))
    c.among_part.ensures)
