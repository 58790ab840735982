use Rattle.std.proofs.Common.{◌≡◌, ◌*◌, ℕ, sym, ap, ◌∙◌}
use Rattle.arrays.specs.declared.layout.Layout.TheVariants as layout
use Rattle.array_select.proofs.GatheredMany.{cut_is, decimals_of_column}
use Rattle.array_select.proofs.gather_cells.packed_decimals.Goals as goal

pub returns-in-Decimals : goal.returns-in-Decimals
returns-in-Decimals c =
    let column = c.args.column.now in
    let cells = c.in-Decimals.cells in
    let known : column.layout ≡ layout.Decimals cells = sym c.layout.ensures.value ∙ c.in-Decimals.is in
    decimals_of_column column cells _ known c.len-count.ensures.stands
    (cut_is 16 column.first (16 * c.first.result) cells.values c.values.result.now c.values.ensures (ap (λ (n : ℕ). 16 * n) c.first.ensures))
