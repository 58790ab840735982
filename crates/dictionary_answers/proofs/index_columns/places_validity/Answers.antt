use Rattle.std.proofs.Common.{◌∙◌, ℕ, map, not, nat_eq, sym, ap}
use Rattle.std.proofs.lemmas.List.{take_all}
use Rattle.dictionary_answers.specs.inside.CodedTexts.{no_place}
use Rattle.dictionary_answers.proofs.Marks.{valid_all, valid_bits}
use Rattle.dictionary_answers.proofs.index_columns.places_validity.Goals as goal

pub returns-then-not-contains : goal.returns-then-not-contains
returns-then-not-contains c = rw c.new.ensures (valid_all c.args.places.now (sym c.contains.ensures.value ∙ c.if-not-contains.true))

pub returns : goal.returns
returns c =
    let all = take_all c.loop-place.place-index c.args.places.now c.loop-place-test.false in
    rw c.new-2.ensures
    (valid_bits c.in_ok-into_bits.field-0 c.args.places.now (c.in_ok-into_bits.ensures.value ∙ c.loop-place.invariant ∙ ap (map (λ (number : ℕ). not (nat_eq number no_place))) all))
