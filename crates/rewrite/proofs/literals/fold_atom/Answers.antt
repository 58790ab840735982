use Rattle.std.proofs.Common.{◌≡◌, true, false, ℕ, sym, refl}
use Rattle.scan_base.specs.View.{pred_of}
use Rattle.rewrite.proofs.Naming.{weaker}
use Rattle.rewrite.proofs.literals.fold_atom.Goals as goal

-- a test that no column passes is stronger than one that each passes
stronger : (column : ℕ) → false ≡ true → true ≡ true
stronger column h = refl

-- literals alone need no cell, so a row that has each column serves
pub truth-truth-requires : goal.truth-truth-requires
truth-truth-requires c =
    weaker (λ (column : ℕ). false) (λ (column : ℕ). true) stronger (pred_of c.args.atom.now)
    (sym c.if-has_literals_alone.ensures)
