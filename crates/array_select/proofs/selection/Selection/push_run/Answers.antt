use Rattle.std.proofs.Common.{◌<◌, ◌++◌, ℕ, List, All, is_ok, sym, subst}
use Rattle.array_select.specs.Selection.{AreRising}
use Rattle.array_select.proofs.Hits.{run_rises, still_rising}
use Rattle.array_select.proofs.selection.Selection.push_run.Goals as goal

pub invariant_of-self : goal.invariant_of-self
invariant_of-self c =
    let old = c.self.inside.places.items in
    let earlier : All (λ (p : ℕ). p < c.args.base) old = subst (All (λ (p : ℕ). p < c.args.base)) (sym c.self.view_is) c.requires.earlier in
    still_rising (is_ok c.extend_from_slice.result) old c.extend_from_slice.new.self.items c.run_from.result c.extend_from_slice.ensures.items c.self.invariant
    (subst (λ (run : List ℕ). AreRising (old ++ run)) (sym c.run_from.ensures) (run_rises old c.args.base 64 earlier c.self.invariant))
