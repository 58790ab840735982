use Rattle.std.proofs.Common.{◌≡◌, ◌-◌, ℕ, List, [], ◌∷◌, length, map, refl, rules, arith}
use Rattle.std.proofs.lemmas.List.FromFn.{length-range_with_len}
use Rattle.scan_base.specs.declared.predicate.Predicate.{Predicate}
use Rattle.scan_base.specs.View.{pred_of}
use Rattle.row_sources.specs.Picking.{pick_of, rows_of_part}
use Rattle.row_sources.proofs.Giving.{gives, all_hold}
use Rattle.row_sources.proofs.picker.Picker.give.Goals as goal

no_filter : (filters : List (Predicate ℕ)) → length filters ≡ 0 → map pred_of filters ≡ []
no_filter [] e = refl
no_filter (filter ∷ filters) e = absurd (omega (arith, e))

pub returns-then-is_empty : goal.returns-then-is_empty
returns-then-is_empty c =
    let part = c.args.part.now in
    let pick = pick_of c.args.self.now in
    let none : length c.args.self.now.filters.items ≡ 0 = search (rules, c.is_empty.ensures, c.if-is_empty.true) in
    let size = length-range_with_len part.from (part.to - part.from) in
    gives pick part c.requires.pick (rows_of_part part) c.in_ok-slice_of.field-0
    (all_hold pick part (no_filter c.args.self.now.filters.items none)) (omega (arith, size, c.requires.some))
    (rw c.as_slice.ensures.value at c.in_ok-slice_of.ensures)
