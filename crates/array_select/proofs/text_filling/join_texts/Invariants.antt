use Rattle.std.proofs.Common.{◌≡◌, ◌++◌, drop, map}
use Rattle.arrays.specs.WrittenSlots.{texts_joined}
use Rattle.array_select.proofs.text_filling.join_texts.Given as goal

abbrev pub invariant-loop-slot : goal.invariant-loop-slot
invariant-loop-slot g l = l.made.items ++ texts_joined (map g.S.Source.held (drop l.slot-index l.slots)) ≡ texts_joined (map g.S.Source.held l.slots)
