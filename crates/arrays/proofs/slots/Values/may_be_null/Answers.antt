use Rattle.arrays.proofs.ValidSlots.{indices_no_nulls}
use Rattle.arrays.proofs.slots.Values.may_be_null.Goals as goal

pub returns-in-Indices : goal.returns-in-Indices
returns-in-Indices c = λ validity len stands no.
    rw c.in-Indices.is (indices_no_nulls _ (rw c.in-Indices.is at stands).stand (rw c.deref.ensures at c.may_have_nulls.ensures no))
