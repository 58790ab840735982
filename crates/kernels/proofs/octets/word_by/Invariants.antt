use Rattle.std.proofs.Common.{◌≡◌, ℕ, ◌+◌, ◌-◌, ◌*◌}
use Rattle.std.specs.Simd.Lanes.{mask_l}
use Rattle.kernels.specs.Ranges.{long_at}
use Rattle.kernels.specs.Tests.{tests}
use Rattle.kernels.proofs.octets.word_by.Given as goal

abbrev pub invariant-loop-k : goal.invariant-loop-k
invariant-loop-k g l = l.word ≡ mask_l (tests (λ (j : ℕ). g.O.Octets.says l.octets (long_at l.values j)) (l.from + 8 * (8 - l.k)) (8 * l.k))
