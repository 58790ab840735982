use Rattle.std.proofs.Common.{◌≡◌, drop, take, All}
use Rattle.std.specs.List.{list_any, flat_map}
use Rattle.arrays.specs.Batch.{rows_of}
use Rattle.table_versions.specs.KeptTables.{Stands}
use Rattle.table_versions.specs.Table.{is_long_text}
use Rattle.table_versions.proofs.cells.has_long_row.Given as goal

abbrev pub invariant-loop-batch : goal.invariant-loop-batch
invariant-loop-batch l =
    let long = list_any is_long_text in record {
      long : list_any long (flat_map rows_of l.batches) ≡ list_any long (flat_map rows_of (drop l.batch-index l.batches));
      stand : All Stands (take l.batch-index l.batches);
    }
