use Rattle.kernels.proofs.TextWords.{IsHalfway}
use Rattle.kernels.proofs.texts.EqualTexts.equal_word.Given as goal

abbrev pub invariant-loop-left : goal.invariant-loop-left
invariant-loop-left l = IsHalfway l.self.needle l.self.offsets.now l.self.bytes.now l.from l.left l.equal

abbrev pub decreases-loop-left : goal.decreases-loop-left
decreases-loop-left l = l.left
