use Rattle.std.proofs.Common.{◌≡◌, ℕ, ◌+◌, List, ap, ◌∙◌, arith}
use Rattle.std.specs.Int.{w128, cast_signed}
use Rattle.scan_base.specs.declared.truth.Truth.{Truth}
use Rattle.arrays.specs.declared.layout.Layout.{Layout}
use Rattle.arrays.specs.declared.layout.Layout.TheVariants.{Integers, Decimals}
use Rattle.arrays.specs.Column.{slot_of}
use Rattle.arrays.specs.Layout.{layout_slot}
use Rattle.arrays.specs.Number.{element_at}
use Rattle.arrays.specs.inside.SignedNumbers.{signed128}
use Rattle.kernels.proofs.Ranged.{decimals_said}
use Rattle.kernels.proofs.WordRows.{same_range}
use Rattle.kernels.proofs.numbers.numbers_in.Goals as goal

pub returns-in_ok-mask-in-Integers : goal.returns-in_ok-mask-in-Integers
returns-in_ok-mask-in-Integers c = λ test tests.
    let column = c.args.part.now.column.now in
    let from = c.args.part.now.from in
    let cells = c.in-Integers.cells in
    let f : ℕ → Truth = λ place. test (layout_slot (Integers cells) place) in
    let g : ℕ → Truth = λ row. test (slot_of column row) in
    c.in_ok-mask-in-Integers.ensures test tests
    ∙ same_range f g (c.first.result + from) from c.args.part.now.len (λ i lt.
    let at : c.first.result + from + i ≡ column.first + (from + i) = omega (arith, c.first.ensures) in
    ap f at ∙ ap (λ (l : Layout). test (layout_slot l (column.first + (from + i)))) c.in-Integers.ensures.value)

pub returns-in_ok-mask-in-Decimals : goal.returns-in_ok-mask-in-Decimals
returns-in_ok-mask-in-Decimals c = λ test tests.
    let column = c.args.part.now.column.now in
    let from = c.args.part.now.from in
    let len = c.args.part.now.len in
    let cells = c.in-Decimals.cells in
    let packed = c.packed_decimals.result in
    let f : ℕ → Truth = λ place. test (layout_slot (Decimals cells) place) in
    let g : ℕ → Truth = λ row. test (slot_of column row) in
    c.in_ok-mask-in-Decimals.ensures test tests
    ∙ decimals_said test cells packed.validity.now (λ place. cast_signed w128 (element_at 16 packed.values.now place)) (c.first.result + from) len c.packed_decimals.ensures.validity
    (λ place. ap (λ (v : List ℕ). cast_signed w128 (element_at 16 v place)) c.packed_decimals.ensures.values ∙ signed128 (element_at 16 cells.values place))
    ∙ same_range f g (c.first.result + from) from len (λ i lt.
    let at : c.first.result + from + i ≡ column.first + (from + i) = omega (arith, c.first.ensures) in
    ap f at ∙ ap (λ (l : Layout). test (layout_slot l (column.first + (from + i)))) c.in-Decimals.ensures.value)
