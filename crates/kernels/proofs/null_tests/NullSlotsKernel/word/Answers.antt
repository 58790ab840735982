use Rattle.kernels.proofs.NullTruths.{null_rows}
use Rattle.kernels.proofs.null_tests.NullSlotsKernel.word.Goals as goal

pub returns : goal.returns
returns c = λ row lt. null_rows c.args.self.now.validity.now c.args.from c.valid_word.result row lt (c.valid_word.ensures row lt)
