use Rattle.std.proofs.Common.{◌≡◌, ℕ, List, length, sym, ap, subst, arith}
use Rattle.arrays.specs.Column.{values_of}
use Rattle.dictionary_answers.specs.inside.CodedTexts.{AreCoded, DistinctTextsAt, coded_texts_at}
use Rattle.dictionary_answers.specs.inside.PackedPlaces.{numbers_in}
use Rattle.dictionary_answers.proofs.Numbers.{written_back}
use Rattle.dictionary_answers.proofs.columns.code_packed.Goals as goal

pub returns-clause-coded : goal.returns-clause-coded
returns-clause-coded c =
    let values = values_of c.args.column.now in
    let new = c.code_slots.new.packed in
    let items = c.in_ok-packed.packed.items in
    let long : length items ≡ c.in_ok-packed.packed.len = omega (arith, c.in_ok-packed.packed.ok) in
    let same : length new ≡ length items = omega (arith, c.code_slots.auto.packed) in
    subst (λ (bytes : List ℕ). AreCoded values c.args.room (coded_texts_at c.code_slots.new.found (numbers_in bytes))) (sym (written_back c.in_ok-packed.packed.len new items long same))
    (subst (λ (n : ℕ). AreCoded values n (coded_texts_at c.code_slots.new.found (numbers_in new))) (ap (λ (f : DistinctTextsAt). f.left) c.new-found.ensures) c.in_ok-code_slots.ensures.coded)
