use Rattle.group_slots.specs.Pieces.{tallies_of}
use Rattle.group_slots.proofs.Pieced.{AreDone}
use Rattle.group_slots.proofs.partial_sums.join_pieces.Given as goal

abbrev pub invariant-loop-group : goal.invariant-loop-group
invariant-loop-group l = AreDone l.initial.tallies (tallies_of l.pieces) l.group l.tallies
