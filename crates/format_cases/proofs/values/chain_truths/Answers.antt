use Rattle.std.proofs.Common.{pos, ℕ, ◌∙◌, ap, sym, subst, IsTrue, nat_lt, List, [], ◌∷◌, ◌++◌, length}
use Rattle.scan_base.specs.declared.value.Value.{Value}
use Rattle.scan_base.specs.declared.value.Value.TheVariants.{Int}
use Rattle.scan_base.specs.Predicate.{Pred, names_only}
use Rattle.scan_base.specs.View.{pred_of}
use Rattle.format_cases.proofs.values.chain_truths.Goals as goal

-- whether a row has each column that a predicate names
abbrev covers : Pred ℕ → List Value → Type 0
covers predicate row = IsTrue (names_only (λ column. nat_lt column (length row)) predicate)

pub truth-all-requires : goal.truth-all-requires
truth-all-requires c =
    subst (covers (pred_of c.loop.all)) (sym (c.in_ok-push.ensures.ok ∙ ap (λ row. row ++ Int (pos 3) ∷ []) c.new-row.ensures))
    c.loop.invariant.all

pub truth-any-requires : goal.truth-any-requires
truth-any-requires c =
    subst (covers (pred_of c.loop.any)) (sym (c.in_ok-push.ensures.ok ∙ ap (λ row. row ++ Int (pos 3) ∷ []) c.new-row.ensures))
    c.loop.invariant.any
