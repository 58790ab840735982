-- Inside: the pairs of a left batch.
use Rattle.std.specs.Prelude.{◌≡◌, ◌≤◌, ◌<◌, All, List, ◌++◌, length, drop}
use Rattle.array_select.specs.Room.{most_batch_rows}
use Rattle.arrays.specs.TypedLayouts.{AreOf}
use Rattle.hash_join.specs.Pairs.{pairs_ahead}
use Rattle.hash_join.specs.declared.pair.Pair.{Pair}
use Rattle.join_batches.specs.declared.joiner.BuiltSides.{BuiltSides}
use Rattle.join_batches.specs.declared.left_pairs.LeftPairs.{LeftPairs}
use Rattle.join_batches.specs.Rows.{IsPair}

-- the pairs that are still to be given: of those that were found, and those that are still to be
-- found
abbrev pub pairs_left : BuiltSides → LeftPairs → List Pair
pairs_left sides left = drop left.given left.pairs.items
    ++ pairs_ahead sides.build left.batch sides.left.key.items left.probe

-- The batch is of the left types, its pairs are there, and both are few enough to be counted. As
-- long as no left batch was joined, one without rows stands in its place.
pub record IsLeft (sides : BuiltSides) (left : LeftPairs) : Type 0 where
  pub typed : 0 < left.batch.rows → AreOf sides.left.types.items left.batch.columns
  pub few : left.batch.rows ≤ most_batch_rows
  pub pairs_there : All (IsPair sides.build.batches left.batch) left.pairs.items
  pub pairs_few : length left.pairs.items ≤ most_batch_rows
  pub given_few : left.given ≤ length left.pairs.items

-- the same pairs of the same batch are still to be given
pub record KeepsPairs (sides : BuiltSides) (before after : LeftPairs) : Type 0 where
  pub held : IsLeft sides after
  pub batch : after.batch ≡ before.batch
  pub same : pairs_left sides after ≡ pairs_left sides before
