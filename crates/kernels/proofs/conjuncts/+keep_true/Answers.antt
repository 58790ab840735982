use Rattle.std.proofs.Common.{ℕ, List, sym, subst}
use Rattle.scan_base.specs.declared.truth.Truth.{Truth}
use Rattle.scan_base.specs.declared.predicate.Predicate.{Predicate}
use Rattle.scan_base.specs.View.{pred_of}
use Rattle.kernels.specs.KeptRows.{Keeps}
use Rattle.kernels.specs.Rows.{truth_in, truths_of}
use Rattle.kernels.proofs.KeptParts.{keeps_both}
use Rattle.kernels.proofs.conjuncts.+keep_true.Goals as goal

pub returns-in_ok-keep_true-in-And-2 : goal.returns-in_ok-keep_true-in-And-2
returns-in_ok-keep_true-in-And-2 t c =
    let rows = c.args.rows.now in
    let columns = rows.columns.columns.now in
    let read = rows.columns.read.now in
    let left : Predicate ℕ = c.in-And.left.value in
    let right : Predicate ℕ = c.in-And.right.value in
    let said : Predicate ℕ → List Truth = λ p. truths_of columns read (pred_of p) rows.from rows.len in
    let olds = c.args.words.now in
    let mids = c.keep_true.new.words in
    let news = c.keep_true-in-And.new.words in
    let one : Keeps (said left) olds mids = subst (λ (p : Predicate ℕ). Keeps (said p) olds mids) c.deref.ensures c.in_ok-keep_true-in-And.ensures in
    let other : Keeps (said right) mids news = subst (λ (p : Predicate ℕ). Keeps (said p) mids news) c.deref-in-And.ensures c.in_ok-keep_true-in-And-2.ensures in
    subst (λ (p : Predicate ℕ). Keeps (said p) olds news) (sym c.in-And.is)
    (keeps_both (truth_in columns read (pred_of left)) (truth_in columns read (pred_of right)) rows.from rows.len olds mids news one other)
