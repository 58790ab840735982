use Rattle.std.proofs.Common.{subst, sym, FitsSigned, rules}
use Rattle.std.specs.Int.{w128}
use Rattle.std.proofs.lemmas.Int.{to_z-of_z}
use Rattle.group_slots.proofs.Numbers.{slot_short, IsShortOrNull}
use Rattle.group_slots.proofs.tally.integer_at.Goals as goal

pub returns-in-Int-clause-short : goal.returns-in-Int-clause-short
returns-in-Int-clause-short c =
    let fits : FitsSigned w128 c.in-Int.number = search rules in
    simp to_z-of_z (subst IsShortOrNull (sym c.in-Int.ensures)
    (slot_short c.values_are_of_their_type.ensures c.args.column.now c.len-len.ensures.stands c.requires.integers c.args.place c.requires.there))
