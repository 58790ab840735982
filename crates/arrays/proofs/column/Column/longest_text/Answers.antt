use Rattle.std.proofs.Common.{◌≡◌, ◌≤◌, ◌+◌, ◌∙◌, length, sym, subst, arith}
use Rattle.arrays.specs.declared.layout.Layout.{Layout}
use Rattle.arrays.specs.declared.layout.Layout.TheVariants as layout
use Rattle.arrays.specs.Layout.{layout_slot}
use Rattle.arrays.specs.WrittenSlots.{text_bytes}
use Rattle.arrays.proofs.ShortTexts.{column_short, slot_texts_short, slot_indices_short, slot_no_text}
use Rattle.arrays.proofs.column.Column.longest_text.Goals as goal

pub returns-in-Texts : goal.returns-in-Texts
returns-in-Texts c =
    let column = c.args.self.now in
    let known : column.layout ≡ layout.Texts c.in-Texts.cells = sym c.layout.ensures.value ∙ c.in-Texts.is in
    column_short column c.longest_between.result (λ j low. rw known (slot_texts_short c.in-Texts.cells (column.first + j) c.longest_between.result
    (c.longest_between.ensures (column.first + j) (omega (arith, c.first-first.ensures)) (omega (arith, c.first-first.ensures, c.len.ensures.count)))))

pub returns-in-Indices : goal.returns-in-Indices
returns-in-Indices c =
    let column = c.args.self.now in
    let known : column.layout ≡ layout.Indices c.in-Indices.cells = sym c.layout.ensures.value ∙ c.in-Indices.is in
    column_short column c.longest.result (λ j low. rw known (slot_indices_short c.in-Indices.cells (column.first + j) c.longest.result (rw c.dictionary.ensures at c.longest.ensures)))

pub returns-in_default : goal.returns-in_default
returns-in_default c =
    let column = c.args.self.now in
    column_short column 0 (λ j low. subst (λ (known : Layout). length (text_bytes (layout_slot known (column.first + j))) ≤ 0) c.layout.ensures.value
    (slot_no_text c.layout.result (column.first + j) c.in_default.not-Texts c.in_default.not-Indices))
