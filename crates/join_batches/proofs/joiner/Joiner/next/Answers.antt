use Rattle.std.proofs.Common.{◌≡◌, ℕ, List, length, true, nat_lt, sym, ap, ◌∙◌, subst, arith}
use Rattle.std.specs.List.{list_all, range_with_len}
use Rattle.join_batches.specs.Joiner.{joined_types}
use Rattle.join_batches.proofs.Giving.{all_shown}
use Rattle.join_batches.proofs.Typed.{range_within}
use Rattle.join_batches.proofs.joiner.Joiner.next.Goals as goal

pub next_shown-requires : goal.next_shown-requires
next_shown-requires c =
    let width = length (joined_types c.args.self.now) in
    subst (λ (shown : List ℕ). list_all (λ number. nat_lt number width) shown ≡ true)
    (sym (c.as_slice.ensures.value ∙ c.in_ok-all.ensures ∙ ap (range_with_len 0) c.width.ensures)) (range_within 0 width width (omega arith))

pub returns : goal.returns
returns c =
    all_shown c.args.self.now c.next_shown.new.self c.as_slice.result.now c.next_shown.result
    (c.as_slice.ensures.value ∙ c.in_ok-all.ensures ∙ ap (range_with_len 0) c.width.ensures) c.next_shown.ensures
