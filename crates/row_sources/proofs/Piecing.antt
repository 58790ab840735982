-- Pieces of what is still to be given.
use Rattle.std.proofs.Common.{◌≡◌, ◌≤◌, ◌<◌, ◌-◌, ℕ, suc, Bool, true, false, cond, List, [], ◌∷◌, ◌++◌, length, map, take, refl, sym, ap, ◌∙◌, subst, arith}
use Rattle.std.specs.List.{filter}
use Rattle.std.proofs.lemmas.List.{map-append, length-map}
use Rattle.std.proofs.lemmas.List.Elements.{filter-append}
use Rattle.std.proofs.lemmas.Simd.{map-map}
use Rattle.arrays.specs.Batch.{BatchAt, rows_of, cut_batch}
use Rattle.table_versions.specs.StoredTables.{TableAt}
use Rattle.table_versions.specs.Table.{Row}
use Rattle.table_versions.proofs.Rowing.{length-rows_of}
use Rattle.typed_plan.specs.TypedPlans.{types_of}
use Rattle.row_sources.specs.declared.cursor.Cursor.{Cursor}
use Rattle.row_sources.specs.declared.batch_slice.BatchSlice.{BatchSlice}
use Rattle.batch_skipping.specs.OpenedBatches.{batches_in}
use Rattle.row_sources.specs.Picking.{PickAt, cells_at, holds, given_numbered}
use Rattle.row_sources.specs.PickedRows.{given, given_of_part, IsPicked}
use Rattle.row_sources.specs.PlaceCursor.{IsPlaced, IsBatchSlice, Opens, rows_ahead}
use Rattle.row_sources.specs.Running.{RowsAt, GoesOn, FindsPiece, FindsNone, Ends, picked_of}
use Rattle.row_sources.specs.Sources.{rows_of_place}
use Rattle.row_sources.proofs.Batched.{none_from}
use Rattle.row_sources.proofs.Giving.{filter-map}
use Rattle.row_sources.proofs.Opening.{in_longer}

-- what is given of rows of one batch, and then of others
pub given_more : (pick : PickAt) (number : ℕ) (rows : List Row) (rest : List (ℕ × Row)) →
    given_numbered pick (map (λ row. (number, row)) rows ++ rest) ≡ map (λ row. (number, row)) (given pick rows) ++ given_numbered pick rest
given_more pick number rows rest =
    let show : ℕ × Row → ℕ × Row = λ row. (row.0, cells_at pick.shown row.1) in
    let with_number : Row → ℕ × Row = λ row. (number, row) in
    ap (map show) (filter-append (λ (row : ℕ × Row). holds pick row.1) (map with_number rows) rest)
    ∙ map-append show (filter (λ (row : ℕ × Row). holds pick row.1) (map with_number rows)) (filter (λ (row : ℕ × Row). holds pick row.1) rest)
    ∙ ap (λ (some : List (ℕ × Row)). map show some ++ given_numbered pick rest) (filter-map (λ (row : ℕ × Row). holds pick row.1) with_number rows)
    ∙ ap (λ (some : List (ℕ × Row)). some ++ given_numbered pick rest)
    (map-map show with_number (filter (holds pick) rows) ∙ sym (map-map with_number (cells_at pick.shown) (filter (holds pick) rows)))

-- nothing is given of a piece of a source: it is passed
pub passed : (pick : PickAt) (before after : List (ℕ × Row)) (number : ℕ) (rows : List Row) →
    before ≡ map (λ row. (number, row)) rows ++ after → given pick rows ≡ [] → given_numbered pick before ≡ given_numbered pick after
passed pick before after number rows e none =
    ap (given_numbered pick) e ∙ given_more pick number rows after
    ∙ ap (λ (some : List Row). map (λ row. (number, row)) some ++ given_numbered pick after) none

-- something is
pub next_is : (pick : PickAt) (before after : List (ℕ × Row)) (number : ℕ) (rows : List Row) (batch : BatchAt) →
    before ≡ map (λ row. (number, row)) rows ++ after → rows_of batch ≡ given pick rows →
    given_numbered pick before ≡ map (λ row. (number, row)) (rows_of batch) ++ given_numbered pick after
next_is pick before after number rows batch e is =
    ap (given_numbered pick) e ∙ given_more pick number rows after
    ∙ ap (λ (some : List Row). map (λ row. (number, row)) some ++ given_numbered pick after) (sym is)

-- no more rows are given than there are
pub given_few : (pick : PickAt) (rows : List Row) → length (given pick rows) ≤ length rows
given_few pick rows =
    let long = length-map (filter (holds pick) rows) (cells_at pick.shown) in
    omega (arith, long, filter_few (holds pick) rows)
  where
    filter_few : {X : Type 0} (test : X → Bool) (xs : List X) → length (filter test xs) ≤ length xs
    filter_few test [] = omega arith
    filter_few test (x ∷ xs) = by (test x) (filter_few test xs)
      where
        by : (b : Bool) → length (filter test xs) ≤ length xs → length (cond b (x ∷ filter test xs) (filter test xs)) ≤ suc (length xs)
        by true rest = omega (arith, rest)
        by false rest = omega (arith, rest)

abbrev pub place_of : TableAt → Cursor → RowsAt
place_of table cursor = rows_of_place (record { table = table; cursor = cursor })

module _ (pick : PickAt) (table : TableAt) where
  -- a cursor that goes on
  pub on_is : (before after : Cursor) → after.from ≡ before.from → after.to ≡ before.to → before.at ≤ after.at → IsPlaced table after →
      GoesOn (picked_of pick (place_of table before)) (picked_of pick (place_of table after))
  on_is before after from to forth placed =
      let batches = table.batches in
      let grown = in_longer before.from before.at after.at batches forth in
      let front = in_longer after.from after.at after.to batches placed.ordered in
      record {
        types = refl;
        batches = ap (λ (n : ℕ). batches_in n after.to batches) from ∙ ap (λ (n : ℕ). batches_in before.from n batches) to;
        depth = refl;
        opening = subst (λ (n : ℕ). take (length (batches_in before.from before.at batches)) (batches_in n after.at batches)
            ≡ batches_in before.from before.at batches) (sym from) grown;
        opened = front;
      }

  -- nothing was passed of which a row is given
  pub none_yet : (first mid : Cursor) → mid.from ≡ first.from → mid.to ≡ first.to → first.at ≤ mid.at →
      given_numbered pick (rows_ahead table first) ≡ given_numbered pick (rows_ahead table mid) → IsPlaced table mid →
      FindsNone (picked_of pick (place_of table first)) (picked_of pick (place_of table mid))
  none_yet first mid from to forth so_far placed = record { same = so_far; looked = omega (arith, to, forth); on = on_is first mid from to forth placed }

module _ (pick : PickAt) (table : TableAt) (first mid after : Cursor) (part : BatchSlice) (from : mid.from ≡ first.from) (to : mid.to ≡ first.to)
    (forth : first.at ≤ mid.at) (so_far : given_numbered pick (rows_ahead table first) ≡ given_numbered pick (rows_ahead table mid))
    (opens : Opens table mid part after) (of : IsBatchSlice table part) (placed : IsPlaced table after) where
  abbrev part_rows : List Row
  part_rows = rows_of (cut_batch part.batch.now part.from part.to)

  pub goes : GoesOn (picked_of pick (place_of table first)) (picked_of pick (place_of table after))
  goes = on_is pick table first after (opens.from ∙ from) (opens.to ∙ to) (omega (arith, forth, opens.forth)) placed

  -- rows were looked at
  pub looked : after.to - after.at < first.to - first.at
  looked = omega (arith, to, opens.to, forth, opens.forth, placed.ordered)

  pub over : given_of_part pick part ≡ [] → given_numbered pick (rows_ahead table first) ≡ given_numbered pick (rows_ahead table after)
  over none = so_far ∙ passed pick (rows_ahead table mid) (rows_ahead table after) mid.batch part_rows opens.rows none

  pub over_is : given_of_part pick part ≡ [] → FindsNone (picked_of pick (place_of table first)) (picked_of pick (place_of table after))
  over_is none = record { same = over none; looked = omega (arith, looked); on = goes }

  pub found : (batch : BatchAt) → IsPicked pick part batch →
      FindsPiece (picked_of pick (place_of table first)) (record { batch = batch; number = mid.batch }) (picked_of pick (place_of table after))
  found batch is =
      let long = length-rows_of batch in
      let size = length-rows_of (cut_batch part.batch.now part.from part.to) in
      let fewer = given_few pick part_rows in
      record {
        next = so_far ∙ next_is pick (rows_ahead table mid) (rows_ahead table after) mid.batch part_rows batch opens.rows is.rows;
        latest = opens.latest;
        some = is.some;
        few = omega (arith, long, size, fewer, ap length is.rows, of.short);
        typed = is.typed (types_of table.schema.fields) of.typed;
        looked = looked;
        on = goes;
      }

-- at the end of the range
pub ends_is : (pick : PickAt) (table : TableAt) (first after : Cursor) → after.from ≡ first.from → after.to ≡ first.to → first.at ≤ after.at →
    given_numbered pick (rows_ahead table first) ≡ given_numbered pick (rows_ahead table after) → IsPlaced table after → after.to ≤ after.at →
    Ends (picked_of pick (place_of table first)) (picked_of pick (place_of table after))
ends_is pick table first after from to forth so_far placed end =
    let none = ap (given_numbered pick) (none_from 0 after.at after.to table.batches end) in
    let last : after.at ≡ first.to = omega (arith, end, placed.ordered, to) in
    record {
      none = so_far ∙ none;
      still = none;
      all = ap (λ (n : ℕ). batches_in n after.at table.batches) from ∙ ap (λ (n : ℕ). batches_in first.from n table.batches) last;
      on = on_is pick table first after from to forth placed;
    }
