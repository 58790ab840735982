use Rattle.std.proofs.Common.{◌≡◌, take}
use Rattle.scan_base.specs.View.{pred_of}
use Rattle.kernels.specs.Entries.{truths_at}
use Rattle.kernels.proofs.entries.truths_at.Given as goal

abbrev pub invariant-loop-index : goal.invariant-loop-index
invariant-loop-index l = l.truths.items ≡ truths_at (pred_of l.predicate) (take l.index l.dictionary)
