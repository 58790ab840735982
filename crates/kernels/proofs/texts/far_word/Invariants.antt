use Rattle.std.proofs.Common.{◌≡◌, ◌+◌, ◌-◌, ◌*◌}
use Rattle.std.specs.Simd.Lanes.{mask_l}
use Rattle.kernels.specs.Tests.{tests}
use Rattle.kernels.specs.TextTests.{is_far}
use Rattle.kernels.proofs.texts.far_word.Given as goal

abbrev pub invariant-loop-k : goal.invariant-loop-k
invariant-loop-k l = l.word ≡ mask_l (tests (is_far l.far l.offsets) (l.from + 16 * (4 - l.k)) (16 * l.k))
