use Rattle.arrays.proofs.OfType.{of_type}
use Rattle.array_select.proofs.source.SlotRefSource.value.Goals as goal

pub returns-clause-typed : goal.returns-clause-typed
returns-clause-typed c data_type of =
    let column = c.args.self.now.column.now in
    of_type data_type column.layout column.first column.len c.len-count.ensures.stands of c.args.self.now.place c.requires
