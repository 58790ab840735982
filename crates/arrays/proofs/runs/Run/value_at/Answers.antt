use Rattle.std.proofs.Common.{◌≡◌, ◌≤◌, ◌<◌, ◌+◌, ◌-◌, ◌∙◌, ℕ, List, length, map, take, get_or, slice_get, slice_index, Some, ap, sym, arith}
use Rattle.std.specs.Arc.{arc_value}
use Rattle.std.proofs.lemmas.List.{get_or_default, get_or-map, length-map}
use Rattle.scan_base.specs.declared.value.Value.{Value}
use Rattle.arrays.specs.Texts.{TextsAt, texts_slot}
use Rattle.arrays.specs.inside.Runs.{parts_values}
use Rattle.arrays.proofs.Entries.{in_parts}
use Rattle.arrays.proofs.Joined.{in_last}
use Rattle.arrays.proofs.runs.Run.value_at.Goals as goal

pub value_at-requires : goal.value_at-requires
value_at-requires c =
    let handles = c.self.inside.parts.items in
    let starts = c.self.inside.starts.items in
    let i = c.part_of-part.result in
    let part = arc_value c.index.result.now in
    let few : i < length starts = rw c.as_slice.ensures.value at c.part_of-part.ensures.within in
    let at_or_before : slice_index starts i ≤ c.args.index = rw c.as_slice.ensures.value at c.part_of-part.ensures.starts in
    let ends : i + 1 < length starts → c.args.index < slice_index starts (i + 1) = rw c.as_slice.ensures.value at c.part_of-part.ensures.ends in
    let start : c.index-2.result.now ≡ slice_index starts i = c.index-2.ensures ∙ get_or_default starts i c.index-2.result.now 0 few in
    let low : i < length (map arc_value handles) = omega (arith, few, c.self.invariant.many) in
    let here : i < length handles = omega (arith, low, length-map handles arc_value) in
    let is : part ≡ get_or (map arc_value handles) i part = ap arc_value c.index.ensures ∙ sym (get_or-map arc_value handles i c.index.result.now part here) in
    let inside : c.args.index < c.self.inside.len = omega (arith, c.requires, ap length c.self.view_is, c.self.invariant.counted) in
    rw (start, c.deref.ensures)
    (in_last (map arc_value handles) starts c.self.inside.len i c.args.index c.self.inside.nulls part c.self.invariant low is inside ends at_or_before)

pub returns : goal.returns
returns c =
    let handles = c.self.inside.parts.items in
    let parts = map arc_value handles in
    let starts = c.self.inside.starts.items in
    let i = c.part_of-part.result in
    let part = arc_value c.index.result.now in
    let few : i < length starts = rw c.as_slice.ensures.value at c.part_of-part.ensures.within in
    let at_or_before : slice_index starts i ≤ c.args.index = rw c.as_slice.ensures.value at c.part_of-part.ensures.starts in
    let ends : i + 1 < length starts → c.args.index < slice_index starts (i + 1) = rw c.as_slice.ensures.value at c.part_of-part.ensures.ends in
    let start : c.index-2.result.now ≡ slice_index starts i = c.index-2.ensures ∙ get_or_default starts i c.index-2.result.now 0 few in
    let low : i < length parts = omega (arith, few, c.self.invariant.many) in
    let here : i < length handles = omega (arith, low, length-map handles arc_value) in
    let is : part ≡ get_or parts i part = ap arc_value c.index.ensures ∙ sym (get_or-map arc_value handles i c.index.result.now part here) in
    let inside : c.args.index < c.self.inside.len = omega (arith, c.requires, ap length c.self.view_is, c.self.invariant.counted) in
    let front : slice_index starts i ≡ length (parts_values (take i parts)) = c.self.invariant.fronts i low in
    let within = in_last parts starts c.self.inside.len i c.args.index c.self.inside.nulls part c.self.invariant low is inside ends at_or_before in
    sym (ap (λ (values : List Value). slice_get values c.args.index) c.self.view_is)
    ∙ in_parts parts i c.args.index part low is (rw front at at_or_before) (rw front at within)
    ∙ ap (λ (n : ℕ). Some (texts_slot part (c.args.index - n))) (sym (start ∙ front))
    ∙ ap (λ (cells : TextsAt). Some (texts_slot cells (c.args.index - c.index-2.result.now))) (sym c.deref.ensures)
    ∙ sym (ap Some c.value_at.ensures)
