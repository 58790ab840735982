use Rattle.kernels.proofs.EntryRows.{AreTrueUpTo}
use Rattle.kernels.proofs.entries.few_true.Given as goal

abbrev pub invariant-loop-index : goal.invariant-loop-index
invariant-loop-index l = AreTrueUpTo l.truths l.index l.indices.items
