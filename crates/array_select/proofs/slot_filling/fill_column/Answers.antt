use Rattle.std.proofs.Common.{ℕ, map, length, ap, sym, ◌∙◌}
use Rattle.std.proofs.lemmas.List.{length-map}
use Rattle.arrays.specs.Column.{values_of, whole}
use Rattle.arrays.specs.Slots.{layout_of}
use Rattle.array_select.proofs.FilledSlots.{values_filled}
use Rattle.array_select.proofs.slot_filling.fill_column.Goals as goal

pub fill_values-requires-clause-typed : goal.fill_values-requires-clause-typed
fill_values-requires-clause-typed g c = c.in_ok-validity.ensures.typed c.args.data_type c.requires.typed

pub returns-clause-values : goal.returns-clause-values
returns-clause-values g c =
    let slots = c.args.slots.now in
    let values = map g.S.Source.held slots in
    let validity = c.in_ok-validity.validity in
    let kept = c.in_ok-kept.kept in
    let filled = c.in_ok-kept.ensures validity c.in_ok-validity.ensures.valid in
    ap values_of c.new.ensures ∙ ap (λ layout. values_of (whole layout)) c.from_parts.ensures
    ∙ ap (λ (n : ℕ). values_of (whole (layout_of validity n kept))) (sym (length-map slots g.S.Source.held))
    ∙ values_filled (layout_of validity (length values) kept) values filled.count filled.slots
