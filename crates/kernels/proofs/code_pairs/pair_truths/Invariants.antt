use Rattle.kernels.specs.TextPairs.{ArePairTruths}
use Rattle.kernels.proofs.code_pairs.pair_truths.Given as goal

abbrev pub invariant-loop-row : goal.invariant-loop-row
invariant-loop-row l = ArePairTruths l.pairs.comparison l.pairs.left.now.dictionary.now l.pairs.right.now.dictionary.now l.truths.items
