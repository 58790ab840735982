use Rattle.std.proofs.Common.{◌+◌, ◌/◌, ℕ, List, length, ap, sym, subst, ◌∙◌}
use Rattle.scan_base.specs.declared.truth.Truth.{Truth}
use Rattle.scan_base.specs.View.{pred_of}
use Rattle.kernels.specs.KeptRows.{Keeps}
use Rattle.kernels.specs.Rows.{truths_of}
use Rattle.kernels.proofs.KeptParts.{keeps_none}
use Rattle.kernels.proofs.Walking.{length-truths_of}
use Rattle.kernels.proofs.conjuncts.keep_part.Goals as goal

pub returns-then-is_empty : goal.returns-then-is_empty
returns-then-is_empty c =
    let rows = c.args.rows.now in
    keeps_none (truths_of rows.columns.columns.now rows.columns.read.now (pred_of c.args.predicate.now) rows.from rows.len) c.args.words.now (c.is_empty.ensures c.if-is_empty.true)

pub keep-requires : goal.keep-requires
keep-requires c =
    let rows = c.args.rows.now in
    c.requires.long ∙ ap (λ (n : ℕ). (n + 63) / 64) (sym (ap length c.in_ok-mask.ensures ∙ length-truths_of rows.columns.columns.now rows.columns.read.now (pred_of c.args.predicate.now) rows.from rows.len))

pub returns : goal.returns
returns c = subst (λ (t : List Truth). Keeps t c.args.words.now c.keep.new.words) c.in_ok-mask.ensures c.keep.ensures
