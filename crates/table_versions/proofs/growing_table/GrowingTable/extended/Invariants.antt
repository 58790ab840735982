use Rattle.std.proofs.Common.{◌≡◌, ◌≤◌, ◌++◌, length, All}
use Rattle.std.specs.List.{flat_map}
use Rattle.std.specs.Vec.Iter.{into_iter_items}
use Rattle.arrays.specs.Batch.{rows_of}
use Rattle.scan_base.specs.Limits.{most_rows}
use Rattle.table_versions.specs.StoredTables.{kept}
use Rattle.table_versions.specs.KeptTables.{AreSound, Stands}
use Rattle.table_versions.proofs.Storable.{AreTyped}
use Rattle.table_versions.proofs.growing_table.GrowingTable.extended.Given as goal

abbrev pub invariant-loop-batch : goal.invariant-loop-batch
invariant-loop-batch l =
    let left = into_iter_items l.batch-iterator in record {
      schema : l.table.schema ≡ l.fn.self.schema;
      stored : l.table.batches ++ kept left ≡ l.fn.self.batches ++ kept l.fn.batches.items;
      typed : All (AreTyped l.fn.self.schema.fields) left;
      stand : All Stands left;
      sound : AreSound l.fn.self.schema.fields (flat_map rows_of left);
      few : length (flat_map rows_of (l.table.batches ++ left)) ≤ most_rows;
    }
