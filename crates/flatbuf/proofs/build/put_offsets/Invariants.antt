use Rattle.std.proofs.Common.{◌≡◌, ◌≤◌, ◌+◌, ◌*◌, ◌++◌, drop, map, length}
use Rattle.flatbuf.specs.Block.{Offset, numbers, fields, children}
use Rattle.flatbuf.proofs.build.put_offsets.Given as goal

abbrev pub invariant-loop-table : goal.invariant-loop-table
invariant-loop-table l = record {
  place : l.place ≡ 8 + 4 * l.table-index;
  next : l.next + length (children (map Offset (drop l.table-index l.tables))) ≡ l.behind + length (children (map Offset l.tables));
  after : l.behind ≤ l.next;
  out : l.out.items ++ numbers 4 (fields 4 l.place l.next (map Offset (drop l.table-index l.tables))) ≡ l.fn.out.items ++ numbers 4 (fields 4 8 l.behind (map Offset l.tables));
}
