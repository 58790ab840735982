use Rattle.std.proofs.Common.{map, sym, ap, ◌∙◌}
use Rattle.scan_base.specs.declared.truth.Truth.{Truth}
use Rattle.scan_base.specs.declared.truth.Truth.TheVariants.{True}
use Rattle.scan_base.specs.Truth.{truth_not, truth_is}
use Rattle.kernels.specs.Entries.{unless_known}
use Rattle.kernels.proofs.EntryRows.{null_unknown, null_false, null_true}
use Rattle.kernels.proofs.entries.where_null.Goals as goal

pub returns-in-True : goal.returns-in-True
returns-in-True c =
    c.not-in-True.ensures ∙ ap (map truth_not) (c.is.ensures ∙ ap (map (λ (truth : Truth). truth_is truth True)) c.not.ensures) ∙ null_true c.args.mask
    ∙ ap (λ (t : Truth). map (unless_known t) c.args.mask) (sym c.in-True.is)

pub returns-in-False : goal.returns-in-False
returns-in-False c = c.is-in-False.ensures ∙ null_false c.args.mask ∙ ap (λ (t : Truth). map (unless_known t) c.args.mask) (sym c.in-False.is)

pub returns-in-Unknown : goal.returns-in-Unknown
returns-in-Unknown c = null_unknown c.args.mask ∙ ap (λ (t : Truth). map (unless_known t) c.args.mask) (sym c.in-Unknown.is)
