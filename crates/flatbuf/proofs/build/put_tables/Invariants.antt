use Rattle.std.proofs.Common.{◌≡◌, ◌%◌, ◌++◌, length, drop, map}
use Rattle.flatbuf.specs.Block.{Offset, children}
use Rattle.flatbuf.proofs.build.put_tables.Given as goal

abbrev pub invariant-loop-table : goal.invariant-loop-table
invariant-loop-table l = record {
  items : l.out.items ++ children (map Offset (drop l.table-index l.tables)) ≡ l.fn.out.items ++ children (map Offset l.tables);
  whole : length l.fn.out.items % 8 ≡ 0 → length l.out.items % 8 ≡ 0;
}
