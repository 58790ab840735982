use Rattle.std.proofs.Common.{◌≡◌, drop}
use Rattle.scan_base.proofs.ReadingLaws.{behind}
use Rattle.arrays.specs.Batch.{AreLong}
use Rattle.ipc_batch.specs.Columns.{columns_from}
use Rattle.ipc_batch.proofs.columns.read_columns.Given as goal

abbrev pub invariant-loop-j : goal.invariant-loop-j
invariant-loop-j l = record {
  read : behind l.columns.items (columns_from (drop l.j l.fields) l.source.dictionaries.now l.source.rows l.source.body.now (drop l.j l.nodes) l.places)
      ≡ columns_from l.fields l.source.dictionaries.now l.source.rows l.source.body.now l.nodes l.fn.places;
  long : AreLong l.source.rows l.columns.items;
}
