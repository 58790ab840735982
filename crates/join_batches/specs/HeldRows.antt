-- Inside: the rows that a joiner has still to give, and what it keeps.
use Rattle.std.specs.Prelude.{map}
use Rattle.std.specs.Arc.{arc_value}
use Rattle.join_batches.specs.declared.joiner.BuiltSides.{BuiltSides}
use Rattle.join_batches.specs.declared.joiner.Joiner.TheInside.{Inside}
use Rattle.join_batches.specs.BuiltSides.{AreBuilt, unfed}
use Rattle.join_batches.specs.Joiner.{JoinerAt}
use Rattle.join_batches.specs.LeftPairs.{IsLeft, pairs_left}
use Rattle.join_batches.specs.Rows.{pair_row}

-- both sides
abbrev pub sides_of : Inside → BuiltSides
sides_of j = arc_value j.sides

-- what a contract sees
abbrev pub joiner_of : Inside → JoinerAt
joiner_of j = record (unfed (sides_of j)) {
  ahead =
      map (pair_row (sides_of j).build.batches j.left.batch) (pairs_left (sides_of j) j.left);
}

-- both sides are of their types, and the left batch is one of them
pub record IsJoiner (j : Inside) : Type 0 where
  pub built : AreBuilt (sides_of j)
  pub left : IsLeft (sides_of j) j.left
