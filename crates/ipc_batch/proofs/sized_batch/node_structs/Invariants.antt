use Rattle.std.proofs.Common.{◌≡◌, ◌++◌, All, map, drop}
use Rattle.std.specs.List.{flat_map}
use Rattle.arrays.specs.Column.{IsColumn}
use Rattle.ipc_batch.specs.WrittenMessages.{node_bytes, node_written}
use Rattle.ipc_batch.proofs.sized_batch.node_structs.Given as goal

abbrev pub invariant-loop-column : goal.invariant-loop-column
invariant-loop-column l = record {
  nodes : l.structs.items ++ flat_map node_bytes (map node_written (drop l.column-index l.columns)) ≡ flat_map node_bytes (map node_written l.columns);
  stand : All IsColumn (drop l.column-index l.columns) → All IsColumn l.columns;
}
