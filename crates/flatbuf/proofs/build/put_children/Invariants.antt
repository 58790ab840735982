use Rattle.std.proofs.Common.{◌≡◌, ◌%◌, ◌++◌, length, drop, map}
use Rattle.flatbuf.specs.Block.{children}
use Rattle.flatbuf.specs.GivenSlots.{given_of}
use Rattle.flatbuf.proofs.build.put_children.Given as goal

abbrev pub invariant-loop-slot : goal.invariant-loop-slot
invariant-loop-slot l = record {
  items : l.out.items ++ children (map given_of (drop l.slot-index l.slots)) ≡ l.fn.out.items ++ children (map given_of l.slots);
  whole : length l.fn.out.items % 8 ≡ 0 → length l.out.items % 8 ≡ 0;
}
