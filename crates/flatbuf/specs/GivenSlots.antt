-- What the slots of a table are given, without where it lies in memory.
use Rattle.flatbuf.specs.Block.{Given, Absent, Number, Offset}
use Rattle.flatbuf.specs.declared.build.Slot.{Slot}
use Rattle.flatbuf.specs.declared.build.Slot.TheVariants as slots

-- what a slot is given, where a block stands for its bytes and its root
abbrev pub given_of : Slot → Given
given_of slots.Absent = Absent
given_of (slots.Number n) = Number n
given_of (slots.Offset block) = Offset block.now
