use Rattle.std.proofs.Common.{◌≡◌, map, take}
use Rattle.grouping.specs.inside.Answering.{sum_or_none}
use Rattle.grouping.proofs.answer_columns.column_of_sums.Given as goal

abbrev pub invariant-loop-tally : goal.invariant-loop-tally
invariant-loop-tally l = l.sums.items ≡ map sum_or_none (take l.tally-index l.tallies)
