use Rattle.std.proofs.Common.{ℕ, map, length, ap, sym, ◌∙◌}
use Rattle.std.proofs.lemmas.List.{length-map}
use Rattle.arrays.specs.Column.{values_of, whole}
use Rattle.array_select.specs.GatherMany.{value_in}
use Rattle.arrays.specs.Slots.{layout_of}
use Rattle.array_select.proofs.FilledSlots.{values_filled}
use Rattle.array_select.proofs.many_places.gather_many.Goals as goal

pub returns-clause-values : goal.returns-clause-values
returns-clause-values c =
    let places = c.args.places.now in
    let held = value_in (map (λ column. column.now) c.args.columns.now) in
    let values = map held places in
    let validity = c.in_ok-validity.validity in
    let kept = c.in_ok-kept.kept in
    let filled = c.in_ok-kept.ensures validity c.in_ok-validity.ensures.valid in
    ap values_of c.new.ensures ∙ ap (λ layout. values_of (whole layout)) c.from_parts.ensures
    ∙ ap (λ (n : ℕ). values_of (whole (layout_of validity n kept))) (sym (length-map places held))
    ∙ values_filled (layout_of validity (length values) kept) values filled.count filled.slots
