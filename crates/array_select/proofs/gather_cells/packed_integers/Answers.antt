use Rattle.std.proofs.Common.{◌≡◌, ◌*◌, ℕ, sym, ap, ◌∙◌}
use Rattle.arrays.specs.declared.layout.Layout.TheVariants as layout
use Rattle.arrays.specs.Number.{byte_width}
use Rattle.array_select.proofs.GatheredMany.{cut_is, integers_of_column}
use Rattle.array_select.proofs.gather_cells.packed_integers.Goals as goal

pub returns-in-Integers : goal.returns-in-Integers
returns-in-Integers c =
    let column = c.args.column.now in
    let cells = c.in-Integers.cells in
    let known : column.layout ≡ layout.Integers cells = sym c.layout.ensures.value ∙ c.in-Integers.is in
    integers_of_column column cells c.args.integer _ known c.len-count.ensures.stands c.requires
    (cut_is (byte_width c.args.integer) column.first (c.byte_width.result * c.first.result) cells.values c.values.result.now c.values.ensures
    (ap (λ (n : ℕ). n * c.first.result) c.byte_width.ensures ∙ ap (λ (n : ℕ). byte_width c.args.integer * n) c.first.ensures))
