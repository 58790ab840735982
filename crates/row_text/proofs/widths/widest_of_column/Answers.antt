use Rattle.std.proofs.Common.{◌<◌, ◌≤◌, ℕ, List, map, max, sym, ap, ◌∙◌, arith}
use Rattle.std.proofs.lemmas.List.{drop_all}
use Rattle.scan_base.specs.declared.value.Value.{Value}
use Rattle.arrays.specs.Column.{slot_of, values_of}
use Rattle.row_text.specs.TableCells.{greatest, value_width}
use Rattle.row_text.proofs.Widest.{value_more, values_long, slot_at}
use Rattle.row_text.proofs.widths.widest_of_column.Goals as goal

pub loop-place-preserved : goal.loop-place-preserved
loop-place-preserved c =
    let column = c.args.column.now in
    let place = c.loop-place.place in
    let lt : place < column.len = omega arith in
    value_more (value_width c.args.data_type) (values_of column) place c.loop-place.widest c.max-widest.result _ (slot_of column place)
    (rw (values_long column) lt) (slot_at column place lt)
    (c.max-widest.ensures ∙ ap (λ (n : ℕ). max c.loop-place.widest n) (c.value_width.ensures ∙ ap (value_width c.args.data_type) c.value_at.ensures)) c.loop-place.invariant

pub returns : goal.returns
returns c =
    let column = c.args.column.now in
    let all : column.len ≤ c.loop-place.place = omega arith in
    ap (λ (l : List Value). greatest c.loop-place.widest (map (value_width c.args.data_type) l)) (sym (drop_all c.loop-place.place (values_of column) (rw (values_long column) all))) ∙ c.loop-place.invariant
