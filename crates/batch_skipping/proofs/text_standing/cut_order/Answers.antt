use Rattle.std.proofs.Common.{◌≡◌, List, ℕ, true, false, nat_cmp, nat_eq, sym, ap, ◌∙◌}
use Rattle.std.specs.Cmp.Lexicographic.{slice_cmp}
use Rattle.std.specs.List.{starts_with}
use Rattle.std.specs.Ordering.{is_ge}
use Rattle.batch_skipping.proofs.Begun.{is_below, not_below}
use Rattle.batch_skipping.proofs.text_standing.cut_order.Goals as goal

pub returns-then-is_ge : goal.returns-then-is_ge
returns-then-is_ge c =
    let reached : is_ge (slice_cmp nat_cmp c.args.first.now c.args.text.now) ≡ true = sym (c.is_ge.ensures ∙ ap is_ge c.cmp.ensures) ∙ c.if-is_ge.true in
    not_below c.args.first.now c.args.text.now reached

pub returns : goal.returns
returns c =
    let low : is_ge (slice_cmp nat_cmp c.args.first.now c.args.text.now) ≡ false = sym (c.is_ge.ensures ∙ ap is_ge c.cmp.ensures) ∙ c.if-is_ge.false in
    let other : starts_with nat_eq c.args.text.now c.args.first.now ≡ false =
    sym (c.starts_with.ensures.value ∙ ap (λ (some : List ℕ). starts_with nat_eq some c.as_bytes-2.result.now) c.as_bytes.ensures.value
    ∙ ap (λ (some : List ℕ). starts_with nat_eq c.args.text.now some) c.as_bytes-2.ensures.value) ∙ c.if-starts_with.false in
    is_below c.args.first.now c.args.text.now low other
