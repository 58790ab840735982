use Rattle.std.proofs.Common.{rules, sym, subst}
use Rattle.std.specs.Int.{w128}
use Rattle.std.proofs.lemmas.Int.{to_z-of_z}
use Rattle.arrow_types.specs.DataType.{cell_of}
use Rattle.arrays.specs.TypedLayouts.{FitsCell}
use Rattle.csv_columns.proofs.Ranges.{held_fits}
use Rattle.csv_columns.proofs.field_values.number_said.Goals as goal

pub returns-in-Some-clause-typed : goal.returns-in-Some-clause-typed
returns-in-Some-clause-typed c =
    subst (FitsCell (cell_of c.args.kind)) (sym (to_z-of_z w128 c.in-Some.number (search rules))) (held_fits (cell_of c.args.kind) c.in-Some.number c.in-Some.ensures.held)
