use Rattle.std.proofs.Common.{◌+◌, Bool, count_by, sym, ap, ◌∙◌, arith}
use Rattle.arrays.specs.Column.{ColumnAt, slot_of}
use Rattle.arrays.proofs.NullSlots.{none_counted, nulls_and_others, valid_bits}
use Rattle.arrays.proofs.slots.Slots.null_count.Goals as goal

pub returns-in-Nowhere : goal.returns-in-Nowhere
returns-in-Nowhere c =
    let column : ColumnAt = record { layout = c.args.self.now; first = c.args.first; len = c.args.len } in
    sym (none_counted (slot_of column) 0 column.len (λ j low high. c.in-Nowhere.ensures (column.first + j) (omega (arith, c.requires))))

-- the bits that are 0, and those that are not
pub returns-in-AtZeros : goal.returns-in-AtZeros
returns-in-AtZeros c =
    let column : ColumnAt = record { layout = c.args.self.now; first = c.args.first; len = c.args.len } in
    let bits = c.in-AtZeros.bits.now in
    let at = c.in-AtZeros.ensures in
    let valid = valid_bits column bits (λ j low. at.1 (column.first + j) (omega (arith, c.requires))) (omega (arith, c.requires, at.0)) in
    let all = nulls_and_others column in
    let counted = c.count_range.ensures ∙ ap (count_by (λ (bit : Bool). bit)) (sym valid) in
    omega (arith, all, counted)
