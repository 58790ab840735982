use Rattle.std.proofs.Common.{◌≡◌, ◌≤◌, ◌<◌, ◌+◌, ◌∙◌, ◌++◌, [], ℕ, List, Ok, length, ap, sym, subst, append_assoc, arith}
use Rattle.std.proofs.lemmas.List.{append-nil, nil_from_length}
use Rattle.scan_base.specs.declared.value.Value.{Value}
use Rattle.arrays.specs.Texts.{TextsAt, text_at, texts_values}
use Rattle.scan_base.specs.Limits.{most_values}
use Rattle.arrays.proofs.Joined.{dictionary_more, extended_is}
use Rattle.arrays.proofs.dictionary.Dictionary.extended.Goals as goal

pub invariant_of-result : goal.invariant_of-result
invariant_of-result c =
    let values = texts_values c.self.inside.first ++ c.self.inside.later in
    let empty : values ≡ [] = nil_from_length values (omega (arith, c.self.invariant.counted, c.if-self-eq0.true)) in
    let small : c.self.inside.len + c.args.part.len ≤ most_values = omega (arith, c.if-self-more.false, c.len-more.ensures.count, c.self.invariant.small) in
    rw (c.new.ensures, append-nil (texts_values c.args.part), c.len-more.ensures.count)
    (dictionary_more [] c.args.part c.self.inside.len c.self.inside.longest c.longest_between.result c.max-longest.result (rw empty at c.self.invariant) c.len-more.ensures.stands small
    (λ place low. (subst (λ (cells : TextsAt). (k : ℕ) → 0 ≤ k → k < c.len-more.result → length (text_at cells k) ≤ c.longest_between.result) c.borrowed.ensures c.longest_between.ensures) place (omega arith) (omega (arith, c.len-more.ensures.count))) (omega arith) (omega arith))

pub invariant_of-result-2 : goal.invariant_of-result-2
invariant_of-result-2 c =
    let first = texts_values c.self.inside.first in
    let later = c.self.inside.later in
    let small : c.self.inside.len + c.args.part.len ≤ most_values = omega (arith, c.if-self-more.false, c.len-more.ensures.count, c.self.invariant.small) in
    rw (c.in_ok-first.ensures, c.in_ok-later.ensures, ← append_assoc first later (texts_values c.args.part), c.len-more.ensures.count)
    (dictionary_more (first ++ later) c.args.part c.self.inside.len c.self.inside.longest c.longest_between.result c.max-longest.result c.self.invariant c.len-more.ensures.stands small
    (λ place low. (subst (λ (cells : TextsAt). (k : ℕ) → 0 ≤ k → k < c.len-more.result → length (text_at cells k) ≤ c.longest_between.result) c.borrowed.ensures c.longest_between.ensures) place (omega arith) (omega (arith, c.len-more.ensures.count))) (omega arith) (omega arith))

pub returns-clause-value : goal.returns-clause-value
returns-clause-value c =
    let first = texts_values c.self.inside.first in
    let part = texts_values c.args.part in
    let small : length c.args.self.now + c.args.part.len ≤ most_values =
    omega (arith, c.if-self-more.false, c.len-more.ensures.count, c.self.invariant.small, c.self.invariant.counted, ap length c.self.view_is) in
    extended_is c.args.self.now c.args.part small
    ∙ ap Ok (ap (λ (values : List Value). values ++ part) (sym c.self.view_is)
    ∙ append_assoc first c.self.inside.later part
    ∙ ap (λ (later : List Value). first ++ later) (sym c.in_ok-later.ensures)
    ∙ ap (λ (cells : TextsAt). texts_values cells ++ c.in_ok-later.later) (sym c.in_ok-first.ensures))
