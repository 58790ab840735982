use Rattle.std.proofs.Common.{◌≡◌, ◌+◌, ◌*◌, ◌++◌, drop, map}
use Rattle.flatbuf.specs.Block.{numbers, entries}
use Rattle.flatbuf.specs.GivenSlots.{given_of}
use Rattle.flatbuf.proofs.build.put_entries.Given as goal

abbrev pub invariant-loop-slot : goal.invariant-loop-slot
invariant-loop-slot l = record {
  place : l.place ≡ 8 + 8 * l.slot-index;
  out : l.out.items ++ numbers 2 (entries l.place (map given_of (drop l.slot-index l.slots))) ≡ l.fn.out.items ++ numbers 2 (entries 8 (map given_of l.slots));
}
