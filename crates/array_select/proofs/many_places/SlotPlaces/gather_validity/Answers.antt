use Rattle.array_select.specs.inside.GatheredMany.{columns_of}
use Rattle.array_select.proofs.GatheredMany.{all_valid}
use Rattle.array_select.proofs.many_places.SlotPlaces.gather_validity.Goals as goal

pub returns-then-not-have_nulls-clause-valid : goal.returns-then-not-have_nulls-clause-valid
returns-then-not-have_nulls-clause-valid c =
    rw c.new.ensures (all_valid (columns_of c.args.self.now) c.args.self.now.places.now (c.have_nulls.ensures.nulls c.if-not-have_nulls.true) c.requires)
