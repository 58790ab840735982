use Rattle.std.proofs.Common.{◌+◌, arith}
use Rattle.arrays.specs.Column.{ColumnAt, slot_of}
use Rattle.arrays.proofs.NoNulls.{none_listed}
use Rattle.arrays.proofs.column.ColumnCells.may_have_nulls.Goals as goal

pub returns-clause-values : goal.returns-clause-values
returns-clause-values c = λ no.
    let column : ColumnAt = record { layout = c.self.inside.slots; first = c.self.inside.first; len = c.self.inside.len } in
    rw (← c.self.view_is)
    (none_listed (slot_of column) 0 c.self.inside.len (λ place first low. c.may_have_nulls.ensures no (c.self.inside.first + place) (omega (arith, c.self.invariant.stands.within))))
