use Rattle.std.proofs.Common.{◌≡◌, ◌≤◌, ◌+◌, ◌*◌, ◌++◌, drop, map, length}
use Rattle.flatbuf.specs.Block.{numbers, fields, children}
use Rattle.flatbuf.specs.GivenSlots.{given_of}
use Rattle.flatbuf.proofs.build.put_fields.Given as goal

abbrev pub invariant-loop-slot : goal.invariant-loop-slot
invariant-loop-slot l = record {
  place : l.place ≡ l.first + 8 * l.slot-index;
  next : l.next + length (children (map given_of (drop l.slot-index l.slots))) ≡ l.behind + length (children (map given_of l.slots));
  after : l.behind ≤ l.next;
  out : l.out.items ++ numbers 8 (fields 8 l.place l.next (map given_of (drop l.slot-index l.slots))) ≡ l.fn.out.items ++ numbers 8 (fields 8 l.first l.behind (map given_of l.slots));
}
