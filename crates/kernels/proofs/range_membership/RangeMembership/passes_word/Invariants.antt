use Rattle.std.proofs.Common.{◌≡◌, ◌<◌, ◌+◌, ℕ, length, get_or}
use mir.Val.{bool_byte}
use Rattle.arrays.specs.Number.{element_at}
use Rattle.kernels.specs.Ranges.{is_within}
use Rattle.kernels.proofs.range_membership.RangeMembership.passes_word.Given as goal

abbrev pub invariant-loop-k : goal.invariant-loop-k
invariant-loop-k g l = record {
  long : length l.flags ≡ 64;
  made : (row : ℕ) → row < l.k → get_or l.flags row 0 ≡ bool_byte (is_within (g.E.Number.value l.self.least) (g.E.Number.value l.self.most) (g.E.Number.value (g.E.FixedWidth.of_bits (element_at g.E.Element.WIDTH l.self.values.now (l.from + row)))));
}
