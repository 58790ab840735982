use Rattle.array_select.proofs.many_places.SlotPlaces.gather_values.Goals as goal

pub returns-in-Number : goal.returns-in-Number
returns-in-Number c = rw c.in-Number.is c.gather_numbers.ensures

pub returns-in-Bool : goal.returns-in-Bool
returns-in-Bool c = rw c.in-Bool.is c.gather_flags.ensures
