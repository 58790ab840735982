use Rattle.kernels.proofs.FlagTruths.{all_bits, turned_bits}
use Rattle.kernels.proofs.flags.chosen_bits.Goals as goal

pub returns-in-true-true : goal.returns-in-true-true
returns-in-true-true c = λ row lt. all_bits c.args.word row c.args.of_one c.args.of_zero lt c.in-true-true.is-0 c.in-true-true.is-1

pub returns-in-false-true : goal.returns-in-false-true
returns-in-false-true c = λ row lt. turned_bits c.args.word row c.args.of_one c.args.of_zero lt c.in-false-true.is-0 c.in-false-true.is-1
