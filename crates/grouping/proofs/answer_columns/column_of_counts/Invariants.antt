use Rattle.std.proofs.Common.{◌≡◌, map, take}
use Rattle.grouping.proofs.Answering.{count_or_none}
use Rattle.grouping.proofs.answer_columns.column_of_counts.Given as goal

abbrev pub invariant-loop-count : goal.invariant-loop-count
invariant-loop-count l = l.numbers.items ≡ map count_or_none (take l.count-index l.counts)
