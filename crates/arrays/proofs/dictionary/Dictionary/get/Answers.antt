use Rattle.std.proofs.Common.{◌≡◌, ◌≤◌, ◌-◌, ◌∙◌, ℕ, List, length, slice_get, Some, ap, sym, arith}
use Rattle.scan_base.specs.declared.value.Value.{Value}
use Rattle.arrays.specs.Texts.{texts_values}
use Rattle.arrays.proofs.Entries.{length-texts_values, in_part, behind_list}
use Rattle.arrays.proofs.dictionary.Dictionary.get.Goals as goal

pub returns-then-index-first : goal.returns-then-index-first
returns-then-index-first c =
    ap Some c.value_at.ensures
    ∙ sym (in_part c.self.inside.first c.self.inside.later c.args.index (omega (arith, c.if-index-first.true, c.len-first.ensures.count)))
    ∙ ap (λ (values : List Value). slice_get values c.args.index) c.self.view_is

pub returns : goal.returns
returns c =
    let first = texts_values c.self.inside.first in
    let long : c.len-first.result ≡ length first = c.len-first.ensures.count ∙ sym (length-texts_values c.self.inside.first) in
    let high : length first ≤ c.args.index = omega (arith, c.if-index-first.false, long) in
    c.get.ensures
    ∙ ap (λ (n : ℕ). slice_get c.self.inside.later (c.args.index - n)) long
    ∙ sym (behind_list first c.self.inside.later c.args.index high)
    ∙ ap (λ (values : List Value). slice_get values c.args.index) c.self.view_is
