use Rattle.std.proofs.Common.{◌≡◌, ◌≤◌, ◌+◌, ◌^◌, ◌∙◌, ◌/◌, ℕ, List, All, map, length, refl, sym, ap, subst, Bor, arith}
use Rattle.std.specs.Arc.{arc_value}
use Rattle.std.proofs.lemmas.List.{length-map}
use Rattle.scan_base.specs.declared.value.Value.{Value}
use Rattle.scan_base.specs.declared.value.Value.TheVariants.{Text}
use Rattle.scan_base.specs.Value.{IsTextOrNull}
use Rattle.arrays.specs.Indices.{AreIndices}
use Rattle.arrays.specs.Texts.{texts_values}
use Rattle.arrays.specs.Column.{ColumnAt, values_of, whole}
use Rattle.arrays.specs.declared.layout.Layout.{Layout}
use Rattle.arrays.specs.declared.layout.Layout.TheVariants as layout
use Rattle.dictionary_answers.specs.Firsts.{AreLed}
use Rattle.dictionary_answers.specs.inside.CodedTexts.{held}
use Rattle.dictionary_answers.specs.inside.PackedPlaces.{numbers_in, ArePacked}
use Rattle.dictionary_answers.proofs.IndicesMade.{cells_of, indices_stand, indices_led}
use Rattle.dictionary_answers.proofs.Marks.{zero_where}
use Rattle.dictionary_answers.proofs.Numbers.{length-numbers, written_back}
use Rattle.dictionary_answers.proofs.index_columns.column_over.Goals as goal

pub from_parts-requires : goal.from_parts-requires
from_parts-requires c =
    let texts = map (λ (text : Bor (List ℕ)). text.now) c.args.texts.now in
    let items = c.args.packed.items in
    let places = map held (numbers_in items) in
    let bytes = c.in_ok-bytes.bytes in
    let new = c.clear_marks.new.bytes in
    let long : length items ≡ c.args.packed.len = omega (arith, c.args.packed.ok) in
    let same : length new ≡ length items = omega (arith, c.clear_marks.auto.bytes) in
    let is : bytes ≡ new = c.in_ok-bytes.ensures.ok ∙ written_back c.args.packed.len new items long same in
    let packed : ArePacked bytes places = subst (λ (xs : List ℕ). ArePacked xs places) (sym is)
    (subst (λ (xs : List ℕ). ArePacked new (map held (numbers_in xs))) c.deref_mut.ensures.value c.clear_marks.ensures) in
    let many : length places ≡ c.len-count.result / 4 = length-map (numbers_in items) held ∙ length-numbers items ∙ ap (λ (n : ℕ). n / 4) (long ∙ sym c.len-count.ensures) in
    let part : c.in_ok-dictionary.dictionary ≡ map Text texts = c.in_ok-dictionary.ensures ∙ ap texts_values c.in_ok-share.ensures ∙ c.in_ok-part.ensures.values in
    let stored : arc_value c.in_ok-new.field-0 ≡ map Text texts = c.in_ok-new.ensures.ok ∙ part in
    let few : length texts ≤ 2 ^ 31 = omega (arith, length-map c.args.texts.now (λ (text : Bor (List ℕ)). text.now), c.requires.few) in
    let are : All IsTextOrNull (map Text texts) = subst (All IsTextOrNull) part c.len-values.ensures.texts in
    record {
      stand = subst (λ (n : ℕ). AreIndices (cells_of c.args.validity bytes (arc_value c.in_ok-new.field-0) n)) many
          (subst (λ (d : List Value). AreIndices (cells_of c.args.validity bytes d (length places))) (sym stored)
          (indices_stand texts places c.args.validity bytes c.requires.led.0 few packed c.requires.valid c.requires.led.1 are));
      count = refl;
    }

pub returns-clause-values : goal.returns-clause-values
returns-clause-values c =
    let texts = map (λ (text : Bor (List ℕ)). text.now) c.args.texts.now in
    let items = c.args.packed.items in
    let places = map held (numbers_in items) in
    let validity = c.args.validity in
    let bytes = c.in_ok-bytes.bytes in
    let new = c.clear_marks.new.bytes in
    let count : ℕ = c.len-count.result / 4 in
    let long : length items ≡ c.args.packed.len = omega (arith, c.args.packed.ok) in
    let same : length new ≡ length items = omega (arith, c.clear_marks.auto.bytes) in
    let is_new : bytes ≡ new = c.in_ok-bytes.ensures.ok ∙ written_back c.args.packed.len new items long same in
    let packed : ArePacked bytes places = subst (λ (xs : List ℕ). ArePacked xs places) (sym is_new)
    (subst (λ (xs : List ℕ). ArePacked new (map held (numbers_in xs))) c.deref_mut.ensures.value c.clear_marks.ensures) in
    let many : length places ≡ count = length-map (numbers_in items) held ∙ length-numbers items ∙ ap (λ (n : ℕ). n / 4) (long ∙ sym c.len-count.ensures) in
    let part : c.in_ok-dictionary.dictionary ≡ map Text texts = c.in_ok-dictionary.ensures ∙ ap texts_values c.in_ok-share.ensures ∙ c.in_ok-part.ensures.values in
    let stored : arc_value c.in_ok-new.field-0 ≡ map Text texts = c.in_ok-new.ensures.ok ∙ part in
    let few : length texts ≤ 2 ^ 31 = omega (arith, length-map c.args.texts.now (λ (text : Bor (List ℕ)). text.now), c.requires.few) in
    let is : values_of c.new-column.result ≡ values_of (whole (layout.Indices (cells_of validity bytes (map Text texts) (length places)))) =
    ap values_of c.new-column.ensures ∙ ap (λ (l : Layout). values_of (whole l)) c.from_parts.ensures
    ∙ ap (λ (d : List Value). values_of (whole (layout.Indices (cells_of validity bytes d count)))) stored
    ∙ ap (λ (n : ℕ). values_of (whole (layout.Indices (cells_of validity bytes (map Text texts) n)))) (sym many) in
    subst (AreLed texts places) (sym is) (indices_led texts places validity bytes c.requires.led.0 few packed c.requires.valid c.requires.led.1)

-- the column lies over its texts
pub returns-clause-over : goal.returns-clause-over
returns-clause-over c =
    let texts = map (λ (text : Bor (List ℕ)). text.now) c.args.texts.now in
    let items = c.args.packed.items in
    let places = map held (numbers_in items) in
    let validity = c.args.validity in
    let bytes = c.in_ok-bytes.bytes in
    let new = c.clear_marks.new.bytes in
    let count : ℕ = c.len-count.result / 4 in
    let column = c.new-column.result in
    let long : length items ≡ c.args.packed.len = omega (arith, c.args.packed.ok) in
    let same : length new ≡ length items = omega (arith, c.clear_marks.auto.bytes) in
    let is_new : bytes ≡ new = c.in_ok-bytes.ensures.ok ∙ written_back c.args.packed.len new items long same in
    let packed : ArePacked bytes places = subst (λ (xs : List ℕ). ArePacked xs places) (sym is_new)
    (subst (λ (xs : List ℕ). ArePacked new (map held (numbers_in xs))) c.deref_mut.ensures.value c.clear_marks.ensures) in
    let many : length places ≡ count = length-map (numbers_in items) held ∙ length-numbers items ∙ ap (λ (n : ℕ). n / 4) (long ∙ sym c.len-count.ensures) in
    let stored : arc_value c.in_ok-new.field-0 ≡ map Text texts =
    c.in_ok-new.ensures.ok ∙ c.in_ok-dictionary.ensures ∙ ap texts_values c.in_ok-share.ensures ∙ c.in_ok-part.ensures.values in
    let few : length texts ≤ 2 ^ 31 = omega (arith, length-map c.args.texts.now (λ (text : Bor (List ℕ)). text.now), c.requires.few) in
    let is : values_of column ≡ values_of (whole (layout.Indices (cells_of validity bytes (map Text texts) (length places)))) =
    ap values_of c.new-column.ensures ∙ ap (λ (l : Layout). values_of (whole l)) c.from_parts.ensures
    ∙ ap (λ (d : List Value). values_of (whole (layout.Indices (cells_of validity bytes d count)))) stored
    ∙ ap (λ (n : ℕ). values_of (whole (layout.Indices (cells_of validity bytes (map Text texts) n)))) (sym many) in
    let led : AreLed texts places (values_of column) =
    subst (AreLed texts places) (sym is) (indices_led texts places validity bytes c.requires.led.0 few packed c.requires.valid c.requires.led.1) in
    let first : column.first ≡ 0 = ap (λ (x : ColumnAt). x.first) c.new-column.ensures in
    record {
      cells = cells_of validity bytes (arc_value c.in_ok-new.field-0) count;
      layout = ap (λ (x : ColumnAt). x.layout) c.new-column.ensures ∙ c.from_parts.ensures;
      index = refl;
      dictionary = stored;
      zeros = λ slot low null. (let at : column.first + slot ≡ slot = omega (arith, first) in
          rw at (zero_where texts places bytes column packed led slot low null));
    }
