use Rattle.std.proofs.Common.{ℕ, true, refl}
use Rattle.scan_base.specs.View.{pred_of}
use Rattle.kernels.proofs.EntryRows.{names_any}
use Rattle.kernels.proofs.entries.truth_at.Goals as goal

pub truth-requires : goal.truth-requires
truth-requires c = names_any (λ (column : ℕ). true) (λ column. refl) (pred_of c.args.predicate.now)
