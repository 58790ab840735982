use Rattle.std.proofs.Common.{◌≡◌, ◌<◌, ◌^◌, List, length, map, sym, ap, ◌∙◌, subst}
use Rattle.std.proofs.lemmas.List.{length-map}
use Rattle.scan_base.specs.declared.value.Value.{Value}
use Rattle.array_select.specs.GatherMany.{value_in}
use Rattle.arrays.specs.WrittenSlots.{texts_joined}
use Rattle.join_batches.specs.Rows.{pair_row}
use Rattle.join_batches.specs.BatchSides.{cells_of, place_for, rows_at}
use Rattle.join_batches.proofs.Made.{column_made}
use Rattle.join_batches.proofs.Sources.{places_there, values_are_cells}
use Rattle.join_batches.proofs.batch_sides.BatchSides.column.Goals as goal

pub gather_many-requires-clause-typed : goal.gather_many-requires-clause-typed
gather_many-requires-clause-typed c = rw (c.as_slice.ensures.value, c.type_of.ensures) c.in_ok-columns.ensures.typed

pub gather_many-requires-clause-there : goal.gather_many-requires-clause-there
gather_many-requires-clause-there c =
    rw (c.as_slice.ensures.value, c.places-places.ensures)
    (places_there c.args.self.now c.args.number (map (λ column. column.now) c.in_ok-columns.columns.items) c.args.placed.now.pairs.now c.in_ok-columns.ensures c.requires.there)

pub gather_many-requires-clause-short : goal.gather_many-requires-clause-short
gather_many-requires-clause-short c =
    let columns = map (λ column. column.now) c.in_ok-columns.columns.items in
    let values = values_are_cells c.args.self.now c.args.number columns c.args.placed.now.pairs.now c.in_ok-columns.ensures c.requires.there in
    rw (c.as_slice.ensures.value, c.places-places.ensures)
    (subst (λ (some : List Value). length (texts_joined some) < 2 ^ 31) (sym values) c.requires.named)

pub returns-clause-cells : goal.returns-clause-cells
returns-clause-cells c =
    let sides = c.args.self.now in
    let number = c.args.number in
    let pairs = c.args.placed.now.pairs.now in
    let places = c.places-places.result.now in
    let columns = map (λ column. column.now) c.as_slice.result.now in
    let cells : map (value_in columns) places ≡ cells_of (rows_at sides pairs) number =
    rw (c.as_slice.ensures.value, c.places-places.ensures)
    (values_are_cells sides number (map (λ column. column.now) c.in_ok-columns.columns.items) pairs c.in_ok-columns.ensures c.requires.there) in
    column_made (rows_at sides pairs) number c.gather_many.result (map (value_in columns) places) (length places) cells
    (ap length c.places-places.ensures ∙ length-map pairs (place_for sides number) ∙ sym (length-map pairs (pair_row sides.rights.now sides.left.now)))
    c.gather_many.ensures.values c.gather_many.ensures.long
