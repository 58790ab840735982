use Rattle.std.proofs.Common.{ℕ, ◌+◌}
use Rattle.kernels.specs.Codes.{code_at}
use Rattle.kernels.proofs.AmongCodes.{Gathers}
use Rattle.kernels.proofs.code_membership.among_word.Given as goal

abbrev pub invariant-loop-code : goal.invariant-loop-code
invariant-loop-code l = Gathers l.codes (λ (row : ℕ). code_at l.numbers.integer l.numbers.values.now (l.from + row)) l.code-index l.word
