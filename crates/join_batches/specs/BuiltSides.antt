-- Inside: the sides of a join, where no left batch is there yet.
use Rattle.std.specs.Prelude.{◌≡◌, IsTrue, All, [], length, nat_lt}
use Rattle.std.specs.List.{list_all, flat_map}
use Rattle.arrays.specs.Batch.{BatchAt, rows_of}
use Rattle.arrays.specs.TypedLayouts.{AreOf}
use Rattle.join_batches.specs.declared.joiner.BuiltSides.{BuiltSides}
use Rattle.join_batches.specs.Joiner.{JoinerAt}

-- both sides are of their types, with the columns of the keys, as many at the left as at the right
pub record AreBuilt (sides : BuiltSides) : Type 0 where
  pub alike : length sides.left.key.items ≡ length sides.build.key
  pub key_there : IsTrue
      (list_all (λ column. nat_lt column (length sides.left.types.items)) sides.left.key.items)
  pub rights_typed : All (λ (batch : BatchAt). AreOf sides.right_types.items batch.columns)
      sides.build.batches

-- nothing is to be given
abbrev pub unfed : BuiltSides → JoinerAt
unfed sides = record {
  left_types = sides.left.types.items;
  right_types = sides.right_types.items;
  left_key = sides.left.key.items;
  right_key = sides.build.key;
  rights = flat_map rows_of sides.build.batches;
  ahead = [];
}
