-- The OR of the equalities with the items of a list, from the last one to the first.
use Rattle.std.proofs.Common.{◌≡◌, ℕ, ◌+◌, ◌<◌, List, length, map, drop, get_or, replicate, sym, ap, ◌∙◌, arith}
use Rattle.std.specs.List.{range_with_len}
use Rattle.std.specs.Simd.Lanes.{zip2}
use Rattle.std.proofs.lemmas.List.{drop_all}
use Rattle.std.proofs.lemmas.List.FromFn.{length-range_with_len}
use Rattle.std.proofs.lemmas.Simd.{splat_is_map, zip2_of_maps}
use Rattle.scan_base.specs.declared.comparison.Comparison.TheVariants.{Equal}
use Rattle.scan_base.specs.declared.predicate.Operand.{Operand}
use Rattle.scan_base.specs.declared.truth.Truth.{Truth}
use Rattle.scan_base.specs.declared.truth.Truth.TheVariants.{False}
use Rattle.scan_base.specs.declared.value.Value.{Value}
use Rattle.scan_base.specs.Comparison.{compared}
use Rattle.scan_base.specs.Predicate.{any_equal, operand_value}
use Rattle.scan_base.specs.Truth.{truth_or}
use Rattle.kernels.specs.declared.column_part.RowRange.{RowRange}
use Rattle.kernels.specs.Parts.{cell_of, said_in}
use Rattle.kernels.proofs.AmongCodes.{item_first}

-- what items say of each row, from one of them on
abbrev pub any_said : RowRange → Operand ℕ → List (Operand ℕ) → ℕ → List Truth
any_said rows operand items index = said_in (λ row. any_equal (cell_of rows row) (operand_value (cell_of rows row) operand) (drop index items)) rows

-- no item
pub any_none : (rows : RowRange) (operand : Operand ℕ) (items : List (Operand ℕ)) (mask : List Truth) → mask ≡ replicate rows.len False →
    mask ≡ any_said rows operand items (length items)
any_none rows operand items mask is =
    let places = range_with_len rows.from rows.len in
    let value : ℕ → Value = λ row. operand_value (cell_of rows row) operand in
    is
    ∙ splat_is_map places rows.len False (length-range_with_len rows.from rows.len)
    ∙ ap (λ (l : List (Operand ℕ)). map (λ (row : ℕ). any_equal (cell_of rows row) (value row) l) places) (sym (drop_all (length items) items (omega arith)))

-- one item more
pub any_more : (rows : RowRange) (operand item : Operand ℕ) (items : List (Operand ℕ)) (index : ℕ) (equal mask made : List Truth) → index < length items → item ≡ get_or items index item →
    equal ≡ said_in (λ row. compared Equal (operand_value (cell_of rows row) operand) (operand_value (cell_of rows row) item)) rows →
    mask ≡ any_said rows operand items (index + 1) → made ≡ zip2 truth_or equal mask → made ≡ any_said rows operand items index
any_more rows operand item items index equal mask made low at one others is =
    let places = range_with_len rows.from rows.len in
    let value : ℕ → Value = λ row. operand_value (cell_of rows row) operand in
    is
    ∙ zip2_of_maps truth_or (λ (row : ℕ). compared Equal (value row) (operand_value (cell_of rows row) item)) (λ (row : ℕ). any_equal (cell_of rows row) (value row) (drop (index + 1) items)) places one others
    ∙ ap (λ (l : List (Operand ℕ)). map (λ (row : ℕ). any_equal (cell_of rows row) (value row) l) places) (sym (item_first items index item low at))
