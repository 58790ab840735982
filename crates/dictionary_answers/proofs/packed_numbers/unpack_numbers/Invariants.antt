use Rattle.std.proofs.Common.{◌≡◌, map}
use Rattle.std.specs.List.{range_with_len}
use Rattle.arrays.specs.Number.{element_at}
use Rattle.dictionary_answers.proofs.packed_numbers.unpack_numbers.Given as goal

-- the numbers so far
abbrev pub invariant-loop-slot : goal.invariant-loop-slot
invariant-loop-slot l = l.numbers.items ≡ map (λ k. element_at 4 l.bytes k) (range_with_len 0 l.slot)
