use Rattle.join_batches.specs.BatchSides.{left_place, right_place}
use Rattle.join_batches.proofs.Sources.{first_placed}
use Rattle.join_batches.proofs.placed_pairs.PlacedPairs.first.Goals as goal

pub returns-clause-placed : goal.returns-clause-placed
returns-clause-placed c =
    let placed = c.args.self.now in
    record {
      lefts = first_placed left_place c.args.count placed.lefts.now placed.pairs.now c.requires.placed.lefts;
      rights = first_placed right_place c.args.count placed.rights.now placed.pairs.now c.requires.placed.rights;
    }
