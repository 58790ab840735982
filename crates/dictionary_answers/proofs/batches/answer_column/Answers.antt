use Rattle.std.proofs.Common.{◌∙◌, ℕ, List, map, ap, length, subst, Bor, arith}
use Rattle.std.proofs.lemmas.List.{length-map}
use Rattle.arrays.specs.Column.{slot_of, values_of}
use Rattle.dictionary_answers.specs.Answer.{LiesOver}
use Rattle.dictionary_answers.specs.inside.CodedTexts.{coded_texts_at, held}
use Rattle.dictionary_answers.specs.inside.PackedPlaces.{numbers_in}
use Rattle.dictionary_answers.proofs.Slots.{few_texts}
use Rattle.dictionary_answers.proofs.IndicesMade.{led_same}
use Rattle.dictionary_answers.proofs.batches.answer_column.Goals as goal

pub column_validity-requires : goal.column_validity-requires
column_validity-requires c = record { led = (c.in_ok-found-in-Dictionary.found.texts, rw c.deref.ensures.value c.in_ok-found-in-Dictionary.ensures.coded.places) }

pub column_over-requires-clause-led : goal.column_over-requires-clause-led
column_over-requires-clause-led c = (values_of c.args.column.now, rw c.texts.ensures c.in_ok-found-in-Dictionary.ensures.coded.places)

pub column_over-requires-clause-few : goal.column_over-requires-clause-few
column_over-requires-clause-few c =
    let coded = coded_texts_at c.in_ok-found-in-Dictionary.found (numbers_in c.in_ok-found-in-Dictionary.packed.items) in
    omega (
      arith,
      few_texts (slot_of c.args.column.now) c.args.column.now.len c.args.room coded c.in_ok-found-in-Dictionary.ensures.coded,
      ap (λ (t : List (List ℕ)). length t) c.texts.ensures,
      length-map c.texts.result.now (λ (text : Bor (List ℕ)). text.now),
      c.requires.rows,
    )

pub returns-in_ok-made-in-Dictionary-clause-column : goal.returns-in_ok-made-in-Dictionary-clause-column
returns-in_ok-made-in-Dictionary-clause-column c =
    let are = c.in_ok-found-in-Dictionary.ensures.coded in
    let made = c.in_ok-made-in-Dictionary.made in
    let places = map held (numbers_in c.in_ok-found-in-Dictionary.packed.items) in
    rw c.in-Dictionary.is (
      led_same c.in_ok-found-in-Dictionary.found.texts places (values_of made) (values_of c.args.column.now)
          (rw c.texts.ensures at c.in_ok-made-in-Dictionary.ensures.values) are.places,
      subst (λ (t : List (List ℕ)). LiesOver t made) (c.texts.ensures ∙ are.texts) c.in_ok-made-in-Dictionary.ensures.over,
    )
