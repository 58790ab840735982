use Rattle.std.proofs.Common.{◌≡◌, ◌<◌, ◌+◌, ◌-◌, ◌∙◌, ℕ, List, Bool, false, map, take, drop, get_or, sym, ap, arith}
use Rattle.std.proofs.lemmas.List.{get_or-take, get_or-drop}
use Rattle.scan_base.specs.Value.{is_null}
use Rattle.arrays.specs.Layout.{layout_count, layout_slot}
use Rattle.arrays.specs.declared.layout.Layout.{Layout}
use Rattle.dictionary_answers.specs.inside.CodedTexts.{held}
use Rattle.dictionary_answers.specs.inside.PackedPlaces.{numbers_in}
use Rattle.dictionary_answers.proofs.Marks.{valid_none, valid_own}
use Rattle.dictionary_answers.proofs.index_columns.column_validity.Goals as goal

pub returns-then-null_count-eq0 : goal.returns-then-null_count-eq0
returns-then-null_count-eq0 c =
    rw c.new.ensures (valid_none c.requires.led.0 (map held (numbers_in c.args.packed.now)) c.args.column.now c.requires.led.1 (sym c.null_count.ensures ∙ c.if-null_count-eq0.true))

-- a bit of some of a list
of_some : (bits : List Bool) (first n k : ℕ) → k < n → get_or (take n (drop first bits)) k false ≡ get_or bits (first + k) false
of_some bits first n k low = get_or-take n (drop first bits) k false low ∙ get_or-drop first bits k false

pub returns-in_ok-slice-in-AtZeros : goal.returns-in_ok-slice-in-AtZeros
returns-in_ok-slice-in-AtZeros c =
    let column = c.args.column.now in
    let all = c.in-AtZeros.bits.now in
    let own = c.in_ok-slice-in-AtZeros.field-0 in
    let first = c.first-first.result in
    let n : ℕ = (first + c.len-len.result) - first in
    let many : n ≡ column.len = omega (arith, c.len-len.ensures.count) in
    rw c.new-in-AtZeros.ensures
    (valid_own c.requires.led.0 (map held (numbers_in c.args.packed.now)) column all own c.requires.led.1 (c.in_ok-slice-in-AtZeros.ensures.long ∙ many)
    (λ k low. ap (λ (xs : List Bool). get_or xs k false) c.in_ok-slice-in-AtZeros.ensures.value ∙ of_some all first n k (omega (arith, low, many))
    ∙ ap (λ (f : ℕ). get_or all (f + k) false) c.first-first.ensures)
    (λ k low.
    let is : layout_count c.slots.result.now ≡ layout_count column.layout = ap layout_count c.slots.ensures in
    let under : column.first + k < layout_count c.slots.result.now = omega (arith, is, c.len-len.ensures.stands.within, low) in
    ap (λ (l : Layout). is_null (layout_slot l (column.first + k))) (sym c.slots.ensures) ∙ c.in-AtZeros.ensures.1 (column.first + k) under))
