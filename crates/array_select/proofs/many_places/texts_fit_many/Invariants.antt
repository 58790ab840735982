use Rattle.std.proofs.Common.{◌≡◌, ◌+◌, take, length}
use Rattle.arrays.specs.WrittenSlots.{texts_joined}
use Rattle.array_select.specs.inside.GatheredMany.{values_at}
use Rattle.array_select.proofs.many_places.texts_fit_many.Given as goal

-- what is left, and the bytes of the texts so far
abbrev pub invariant-loop-number : goal.invariant-loop-number
invariant-loop-number l = length (texts_joined (take l.number (values_at l.slots))) + l.left ≡ l.most
