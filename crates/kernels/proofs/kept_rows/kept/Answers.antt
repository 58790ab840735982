use Rattle.std.proofs.Common.{◌≡◌, ◌+◌, ◌++◌, ◌∷◌, [], ℕ, List, length, map, take, drop, refl, sym, ap, subst, ◌∙◌, arith}
use Rattle.scan_base.specs.declared.predicate.Predicate.{Predicate}
use Rattle.scan_base.specs.View.{pred_of}
use Rattle.kernels.specs.KeptRows.{AreBits, all_keep, Keeps}
use Rattle.kernels.specs.Rows.{truths_of}
use Rattle.kernels.proofs.WordRows.{take_front}
use Rattle.kernels.proofs.KeptRows.{kept_more, take_mapped}
use Rattle.kernels.proofs.kept_rows.kept.Goals as goal

pub keep_true-requires-clause-long : goal.keep_true-requires-clause-long
keep_true-requires-clause-long c = ap length c.deref_mut.ensures.value ∙ c.loop-predicate.invariant.long

pub loop-predicate-preserved : goal.loop-predicate-preserved
loop-predicate-preserved c =
    let columns = c.args.columns.now.columns.now in
    let read = c.args.columns.now.read.now in
    let i = c.loop-predicate.predicate-index in
    let olds = c.loop-predicate.words.items in
    let truths = truths_of columns read (pred_of c.predicate-item.result) c.args.from c.args.len in
    let kept : length c.keep_true.new.words ≡ c.loop-predicate.words.len = omega (arith, c.keep_true.auto.words, c.deref_mut.ensures.len) in
    subst (λ (w : List ℕ). AreBits (all_keep columns read (map pred_of (take (i + 1) c.args.predicates.now))) c.args.from c.args.len w)
    (sym (take_front c.keep_true.new.words (drop (length c.keep_true.new.words) olds) c.loop-predicate.words.len kept))
    (kept_more columns read (map pred_of (take i c.args.predicates.now)) (map pred_of (take (i + 1) c.args.predicates.now)) (pred_of c.predicate-item.result) c.args.from c.args.len olds c.keep_true.new.words truths
    (take_mapped pred_of c.args.predicates.now i c.predicate-item.result c.loop-predicate-test.true
    ∙ ap (λ (p : Predicate ℕ). map pred_of (take i c.args.predicates.now) ++ pred_of p ∷ []) (sym c.predicate-item.is))
    refl c.loop-predicate.invariant
    (subst (λ (w : List ℕ). Keeps truths w c.keep_true.new.words) c.deref_mut.ensures.value c.in_ok-keep_true.ensures))
