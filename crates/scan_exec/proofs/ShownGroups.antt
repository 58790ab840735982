-- Groups of which each different item is made once.
use Rattle.std.proofs.Common.{◌≡◌, ◌<◌, ℕ, true, List, [], ◌∷◌, ◌++◌, length, map, nat_lt, unwrap_or, Option, Some, None, option_map, Result, Ok, Err, refl, sym, ap, ◌∙◌, arith}
use Rattle.std.specs.List.{filter}
use Rattle.std.specs.declared.alloc.AllocError.{AllocError}
use Rattle.std.proofs.lemmas.Bool.{ltb-true, and_parts}
use Rattle.std.proofs.lemmas.List.{map-append, length-map}
use Rattle.std.proofs.lemmas.Option.{slice_get-map, slice_get-get_or}
use Rattle.std.proofs.lemmas.Simd.{map-map}
use Rattle.arrow_types.specs.Answer.{copied_type}
use Rattle.arrow_types.specs.declared.data_type.DataType.{DataType}
use Rattle.arrow_types.specs.declared.data_type.DataType.TheVariants.{Utf8}
use Rattle.arrays.specs.Batch.{BatchAt, cut_batch, rows_of}
use Rattle.arrays.specs.TypedLayouts.{AreOf}
use Rattle.scan_base.specs.Predicate.{Pred}
use Rattle.scan_base.specs.View.{pred_of}
use Rattle.scan_base.specs.declared.value.Value.{Value}
use Rattle.table_versions.specs.Table.{Row}
use Rattle.table_versions.proofs.Rowing.{length-rows_of}
use Rattle.typed_plan.specs.declared.plan.Aggregate.{Aggregate}
use Rattle.typed_plan.specs.declared.plan.Aggregate.TheVariants.{Key}
use Rattle.typed_plan.specs.declared.plan.Output.TheVariants.{Groups}
use Rattle.typed_plan.specs.Plan.{answered, groups_by}
use Rattle.typed_plan.specs.GroupedRows.{Group}
use Rattle.typed_plan.specs.TypedPlans.{item_type, type_at}
use Rattle.batch_skipping.specs.ChosenColumns.{are_within}
use Rattle.row_sources.specs.declared.batch_slice.BatchSlice.{BatchSlice}
use Rattle.row_sources.specs.declared.picker.Picker.{Picker}
use Rattle.row_sources.specs.PickedRows.{Picks, given_of_part}
use Rattle.row_sources.specs.Picking.{IsPick, cells_at, holds, pick_of}
use Rattle.row_sources.specs.Running.{RowsAt}
use Rattle.row_sources.proofs.Cells.{cell-map}
use Rattle.row_sources.proofs.Giving.{filter-all}
use Rattle.row_sources.proofs.JoinSteps.{as_many, whole_part}
use Rattle.scan_exec.specs.Answering.{answer_for}
use Rattle.scan_exec.specs.DistinctItems.{StandFor, item_at}
use Rattle.scan_exec.specs.Giving.{GivingAt, GivingOn, GivesBatch, GivesNext, MakesReady}
use Rattle.scan_exec.specs.ShownGroups.{ShowsAll, with_cells}

-- a row with its cells of these numbers
abbrev pub show : List ℕ → Option ℕ × Row → Option ℕ × Row
show numbers row = (row.0, cells_at numbers row.1)

-- without filters all rows hold
all_hold : {X : Type 0} (filters : List X) (view : X → Pred ℕ) (read shown : List ℕ) (rows : List Row) → filters ≡ [] →
    filter (holds (record { filters = map view filters; read = read; shown = shown })) rows ≡ rows
all_hold {X} filters view read shown rows e =
    ap (λ (some : List X). filter (holds (record { filters = map view some; read = read; shown = shown })) rows) e ∙ filter-all rows

-- ---- a batch of an answer

module _ (before after : GivingAt) (picker : Picker) (shows : ShowsAll before picker) where
  -- it goes on
  pub on_shown : GivingOn before after → GivingOn (with_cells picker.shown.items before) (with_cells picker.shown.items after)
  on_shown on = record {
    types = ap (λ (types : List DataType). map (type_at types) picker.shown.items) on.types;
    batches = on.batches;
    opening = on.opening;
    opened = on.opened;
  }

  -- what is made before the first row
  pub ready_shown : (result : Result (Unit {0}) AllocError) → MakesReady before result after → MakesReady (with_cells picker.shown.items before) result (with_cells picker.shown.items after)
  ready_shown (Ok _) ready = record { same = ap (map (show picker.shown.items)) ready.same; on = on_shown ready.on }
  ready_shown (Err refused) on = on_shown on

  -- all rows are shown then too
  pub still_shows : (result : Result (Unit {0}) AllocError) → MakesReady before result after → ShowsAll after picker
  still_shows result ready = record {
    all = shows.all;
    unread = shows.unread;
    there = ap (λ (types : List DataType). are_within (length types) picker.shown.items) (types result ready) ∙ shows.there;
  }
    where
      types : (result : Result (Unit {0}) AllocError) → MakesReady before result after → after.types ≡ before.types
      types (Ok _) ready = ready.on.types
      types (Err refused) on = on.types

  -- what is given of all rows of a batch
  given_whole : (part : BatchSlice) → part.from ≡ 0 → part.to ≡ part.batch.now.rows →
      given_of_part (pick_of picker) part ≡ map (cells_at picker.shown.items) (rows_of part.batch.now)
  given_whole part from to =
      ap (map (cells_at picker.shown.items))
      (all_hold picker.filters.items _ picker.read.items picker.shown.items (rows_of (cut_batch part.batch.now part.from part.to)) shows.all
      ∙ ap (λ (n : ℕ). rows_of (cut_batch part.batch.now n part.to)) from ∙ ap (λ (n : ℕ). rows_of (cut_batch part.batch.now 0 n)) to
      ∙ whole_part part.batch.now)

  -- a batch whose rows have these cells of another's
  batch_shown : (batch made : BatchAt) → GivesBatch before batch after → rows_of made ≡ map (cells_at picker.shown.items) (rows_of batch) → 0 < made.rows →
      AreOf (map (type_at before.types) picker.shown.items) made.columns → GivesBatch (with_cells picker.shown.items before) made (with_cells picker.shown.items after)
  batch_shown batch made gives rows some typed =
      let with_number : Row → Option ℕ × Row = λ row. (gives.number, row) in
      record {
        number = gives.number;
        next = ap (map (show picker.shown.items)) gives.next ∙ map-append (show picker.shown.items) (map with_number (rows_of batch)) after.ahead
            ∙ ap (λ (begin : List (Option ℕ × Row)). begin ++ map (show picker.shown.items) after.ahead)
            (map-map (show picker.shown.items) with_number (rows_of batch)
            ∙ sym (map-map with_number (cells_at picker.shown.items) (rows_of batch)) ∙ ap (map with_number) (sym rows));
        latest = gives.latest;
        some = some;
        few = omega (arith, ap length rows, length-map (rows_of batch) (cells_at picker.shown.items), length-rows_of made, length-rows_of batch, gives.few);
        typed = typed;
        on = on_shown gives.on;
      }

  -- its columns are there
  pub can_pick : (batch : BatchAt) → GivesBatch before batch after → IsPick (length batch.columns) (pick_of picker)
  can_pick batch gives = record {
    read = rw shows.unread refl;
    shown = ap (λ (n : ℕ). are_within n picker.shown.items) (as_many before.types batch.columns gives.typed) ∙ shows.there;
    named = λ k d h. absurd (omega (arith, h, length-map picker.filters.items pred_of, ap length shows.all));
  }

  -- what is picked of it comes next
  pub shown_next : (part : BatchSlice) (result : Result (Option BatchAt) AllocError) → GivesBatch before part.batch.now after → part.from ≡ 0 → part.to ≡ part.batch.now.rows →
      Picks (pick_of picker) part result → GivesNext (with_cells picker.shown.items before) result (with_cells picker.shown.items after)
  shown_next part (Ok (Some made)) gives from to picks =
      batch_shown part.batch.now made gives (picks.rows ∙ given_whole part from to) picks.some (picks.typed before.types gives.typed)
  shown_next part (Ok None) gives from to none =
      absurd (omega (
        arith,
        gives.some,
        length-rows_of part.batch.now,
        length-map (rows_of part.batch.now) (cells_at picker.shown.items),
        ap length (sym (given_whole part from to) ∙ none),
      ))
  shown_next part (Err error) gives from to picks = on_shown gives.on

-- ---- the items of groups

-- the cells of items, by those that stand for them
cells_of : (f : Aggregate → Value) (some : List Aggregate) (places : List ℕ) → are_within (length some) places ≡ true →
    cells_at places (map f some) ≡ map f (map (item_at some) places)
cells_of f some [] all = refl
cells_of f some (place ∷ places) all =
    let parts = and_parts (nat_lt place (length some)) (are_within (length some) places) all in
    rw (cell-map f some place (Key 0) (ltb-true place (length some) parts.0), cells_of f some places parts.1) refl

-- and their types
types_of : (f : Aggregate → DataType) (some : List Aggregate) (places : List ℕ) → are_within (length some) places ≡ true →
    map (type_at (map f some)) places ≡ map f (map (item_at some) places)
types_of f some [] all = refl
types_of f some (place ∷ places) all =
    let parts = and_parts (nat_lt place (length some)) (are_within (length some) places) all in
    let one : type_at (map f some) place ≡ f (item_at some place) =
    ap (λ (t : Option DataType). unwrap_or t Utf8) (slice_get-map f some place
    ∙ ap (option_map f) (slice_get-get_or some place (Key 0) (ltb-true place (length some) parts.0))) in
    rw (one, types_of f some places parts.1) refl

module _ (rows : RowsAt) (keys : List ℕ) (items some : List Aggregate) (places : List ℕ) (stand : StandFor items some places) where
  -- the types
  types_same : map (type_at (map copied_type (map (item_type keys rows.types) some))) places ≡ map copied_type (map (item_type keys rows.types) items)
  types_same =
      ap (λ (types : List DataType). map (type_at types) places) (map-map copied_type (item_type keys rows.types) some)
      ∙ types_of (λ item. copied_type (item_type keys rows.types item)) some places stand.there
      ∙ ap (map (λ item. copied_type (item_type keys rows.types item))) stand.each
      ∙ sym (map-map copied_type (item_type keys rows.types) items)

  -- the items of each group
  group_same : (groups : List Group) →
      map (show places) (map (λ group. (None, map (answered group) some)) groups) ≡ map (λ group. (None, map (answered group) items)) groups
  group_same [] = refl
  group_same (group ∷ groups) =
      ap (λ (row : Row). (None, row) ∷ map (show places) (map (λ group. (None, map (answered group) some)) groups))
      (cells_of (answered group) some places stand.there ∙ ap (map (answered group)) stand.each)
      ∙ ap (λ (rest : List (Option ℕ × Row)). (None, map (answered group) items) ∷ rest) (group_same groups)

  -- what groups answer of the items, by those that stand for them
  pub answers_same : with_cells places (answer_for (Groups keys some) rows) ≡ answer_for (Groups keys items) rows
  answers_same =
      let giving : List DataType → List (Option ℕ × Row) → GivingAt = λ types ahead.
      record { types = types; ahead = ahead; batches = rows.batches; opened = rows.opened; unseen = 0 } in
      let groups = groups_by keys (map (λ (row : ℕ × Row). row.1) rows.ahead) in
      ap (λ (types : List DataType). giving types (map (show places) (map (λ group. (None, map (answered group) some)) groups))) types_same
      ∙ ap (giving (map copied_type (map (item_type keys rows.types) items))) (group_same groups)
