use Rattle.std.proofs.Common.{◌≡◌, ◌<◌, ◌+◌, ℕ, pos, length, get_or}
use Rattle.arrays.specs.Number.{element_at}
use Rattle.kernels.proofs.pairs.fill_cells.Given as goal

abbrev pub invariant-loop-k : goal.invariant-loop-k
invariant-loop-k g l = record {
  long : length l.block ≡ 64;
  made : (row : ℕ) → row < l.k → get_or l.block row (pos 0) ≡ g.E.Number.value (g.E.FixedWidth.of_bits (element_at g.E.Element.WIDTH l.values (l.from + row)));
}
