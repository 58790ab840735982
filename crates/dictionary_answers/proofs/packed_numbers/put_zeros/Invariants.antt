use Rattle.byteorder.proofs.Slices.{MappedTo}
use Rattle.dictionary_answers.specs.inside.PackedPlaces.{numbers_in}
use Rattle.dictionary_answers.proofs.Marks.{shown}
use Rattle.dictionary_answers.proofs.packed_numbers.put_zeros.Given as goal

-- the numbers so far are shown, and the rest are as they were
abbrev pub invariant-loop-slot : goal.invariant-loop-slot
invariant-loop-slot l = MappedTo shown (numbers_in l.initial.bytes) (numbers_in l.bytes) l.slot
