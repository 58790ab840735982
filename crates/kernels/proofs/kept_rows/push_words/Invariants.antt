use Rattle.std.proofs.Common.{◌≡◌, ◌++◌}
use Rattle.kernels.specs.KeptRows.{rows_among}
use Rattle.kernels.proofs.kept_rows.push_words.Given as goal

abbrev pub invariant-loop-k : goal.invariant-loop-k
invariant-loop-k l = l.selection ≡ l.fn.selection ++ rows_among l.base l.words l.k
