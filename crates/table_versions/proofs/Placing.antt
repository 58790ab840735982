-- Batches that tell how many rows stand before them.
use Rattle.std.proofs.Common.{◌≡◌, ◌≤◌, ◌<◌, ℕ, ◌+◌, true, IsTrue, List, [], ◌∷◌, ◌++◌, length, map, take, drop, Some, refl, sym, ap, subst, ◌∙◌, ◌⊎◌, inl, inr, arith, slice_get, option_map}
use Rattle.std.specs.List.{flat_map, list_all}
use Rattle.std.proofs.lemmas.Bool.{cases_lt, and_parts}
use Rattle.std.proofs.lemmas.List.{length-map, map-append, take_all, take-append-le, take-append-drop, length-take}
use Rattle.std.proofs.lemmas.List.Elements.{All-push}
use Rattle.std.proofs.lemmas.List.Folds.{list_all-append}
use Rattle.std.proofs.lemmas.Option.{slice_get-map, slice_get_within}
use Rattle.arrow_types.specs.declared.schema.Schema.{Schema}
use Rattle.arrays.specs.Batch.{BatchAt, rows_of}
use Rattle.arrays.specs.TypedLayouts.{AreOfTypes}
use Rattle.scan_base.specs.Limits.{most_rows}
use Rattle.table_versions.specs.declared.placed_batch.PlacedBatch.{PlacedBatch}
use Rattle.table_versions.specs.Batches.{placed_table, AreStarts, ArePlaced}
use Rattle.table_versions.specs.KeptTables.{AreSound, IsKept, Stands}
use Rattle.table_versions.specs.Standing.{rows_before, StandsIn}
use Rattle.table_versions.specs.StoredTables.{has_rows}
use Rattle.table_versions.proofs.ListTests.{all_push}
use Rattle.shared_pages.proofs.Lists.{slice_get-append_left, slice_get-append_right}
use Rattle.table_versions.proofs.Rowing.{rows-push, length-filled-le}
use Rattle.table_versions.proofs.Storable.{storable_push, sound_push}

abbrev pub batches : List PlacedBatch → List BatchAt
batches placed = map (λ (one : PlacedBatch). one.batch) placed

-- one batch more
pub batches_push : (placed : List PlacedBatch) (one : PlacedBatch) → batches (placed ++ one ∷ []) ≡ batches placed ++ one.batch ∷ []
batches_push placed one = map-append (λ (each : PlacedBatch). each.batch) placed (one ∷ [])

pub batch_there : (placed : List PlacedBatch) (i : ℕ) (one : PlacedBatch) → slice_get placed i ≡ Some one → slice_get (batches placed) i ≡ Some one.batch
batch_there placed i one at = slice_get-map (λ (each : PlacedBatch). each.batch) placed i ∙ ap (option_map (λ (each : PlacedBatch). each.batch)) at

starts_push : (placed : List PlacedBatch) (batch : BatchAt) (rows : ℕ) → AreStarts placed → rows ≡ length (flat_map rows_of (batches placed)) →
    AreStarts (placed ++ record { batch = batch; start = rows } ∷ [])
starts_push placed batch rows are counted i one at = by (cases_lt i (length placed))
  where
    new : PlacedBatch
    new = record { batch = batch; start = rows }

    long : length (batches placed) ≡ length placed
    long = length-map placed (λ (each : PlacedBatch). each.batch)

    front : i ≤ length placed → rows_before (batches (placed ++ new ∷ [])) i ≡ rows_before (batches placed) i
    front h = ap (λ (some : List BatchAt). length (flat_map rows_of (take i some))) (batches_push placed new)
        ∙ ap (λ (some : List BatchAt). length (flat_map rows_of some)) (take-append-le i (batches placed) (batch ∷ []) (omega (arith, h, long)))

    by : (i < length placed) ⊎ (length placed ≤ i) → one.start ≡ rows_before (batches (placed ++ new ∷ [])) i
    by (inl h) = are i one (sym (slice_get-append_left placed (new ∷ []) i h) ∙ at) ∙ sym (front (omega (arith, h)))
    by (inr h) =
        let within = slice_get_within (placed ++ new ∷ []) i one at in
        let last : i ≡ length placed + 0 = omega (arith, h, within, length-push placed) in
        let same : Some new ≡ Some one = sym (slice_get-append_right placed (new ∷ []) 0 i last) ∙ at in
        let start : rows ≡ one.start = cc in
        sym start ∙ counted ∙ ap (λ (some : List BatchAt). length (flat_map rows_of some)) (sym (take_all i (batches placed) (omega (arith, long, h))))
        ∙ sym (front (omega (arith, last)))
      where
        length-push : (xs : List PlacedBatch) → length (xs ++ new ∷ []) ≡ length xs + 1
        length-push [] = refl
        length-push (x ∷ xs) = omega (arith, length-push xs)

module _ (schema : Schema) (placed : List PlacedBatch) (rows : ℕ) (are : ArePlaced schema placed rows) where
  pub placed_push : (batch : BatchAt) (more : ℕ) → IsTrue (has_rows batch) → AreOfTypes schema.fields batch.columns → Stands batch → AreSound schema.fields (rows_of batch) →
      length (flat_map rows_of (batches placed)) + batch.rows ≤ most_rows → more ≡ rows + batch.rows →
      ArePlaced schema (placed ++ record { batch = batch; start = rows } ∷ []) more
  placed_push batch more filled typed stands sound few e =
      let all = batches placed in
      let next = rows-push all batch in
      let kept : IsKept (record { schema = schema; batches = all ++ batch ∷ [] }) more = record {
        storable = storable_push schema all batch are.kept.storable typed;
        filled = all_push has_rows all batch are.kept.filled filled;
        stand = All-push Stands all batch are.kept.stand stands;
        sound = sound_push schema.fields all batch are.kept.sound sound;
        counted = omega (arith, are.kept.counted, e, next);
        few = omega (arith, few, are.kept.counted, e);
      } in
      record {
        kept = subst (λ (some : List BatchAt). IsKept (record { schema = schema; batches = some }) more) (sym (batches_push placed (record { batch = batch; start = rows }))) kept;
        starts = starts_push placed batch rows are.starts are.kept.counted;
      }

  -- there are no more batches than a table may have rows
  pub few_batches : length placed ≤ most_rows
  few_batches = omega (arith, length-filled-le (batches placed) are.kept.filled, are.kept.counted, are.kept.few, length-map placed (λ (each : PlacedBatch). each.batch))

  -- each batch before another has rows
  pub filled_before : (i : ℕ) → i ≤ length placed → i ≤ rows_before (batches placed) i
  filled_before i h =
      let long = length-map placed (λ (each : PlacedBatch). each.batch) in
      let front = length-filled-le (take i (batches placed)) (all_take (batches placed) i are.kept.filled) in
      omega (arith, front, length-take i (batches placed), long, h)
    where
      all_take : (some : List BatchAt) (n : ℕ) → list_all has_rows some ≡ true → list_all has_rows (take n some) ≡ true
      all_take some n all =
          (and_parts (list_all has_rows (take n some)) (list_all has_rows (drop n some)) (sym (list_all-append has_rows (take n some) (drop n some)) ∙ ap (list_all has_rows) (take-append-drop n some) ∙ all)).0

  -- the row stands in the last batch that begins no later
  pub stands_in : (index end row : ℕ) (one : PlacedBatch) → slice_get placed index ≡ Some one → index < end → end ≤ index + 1 → end ≤ length placed →
      rows_before (batches placed) index ≤ row → row < rows_before (batches placed) end →
      StandsIn (placed_table schema placed) row (record { index = index; start = one.start })
  stands_in index end row one at low near high behind before =
      let start = are.starts index one at in
      let next : end ≡ index + 1 = omega (arith, low, near) in
      record {
        there = omega (arith, low, high, length-map placed (λ (each : PlacedBatch). each.batch));
        start = start;
        behind = omega (arith, start, behind);
        before = rw next at before;
        filled = omega (arith, start, filled_before index (omega (arith, low, high)));
      }
