-- Pages of statistics, as batches and pages are added.
use Rattle.std.specs.Prelude.{IfSome}
use Rattle.std.proofs.Common.{◌≡◌, ◌<◌, ◌≤◌, ℕ, zero, suc, ◌+◌, ◌*◌, ◌/◌, ◌%◌, IsTrue, List, [], ◌∷◌, ◌++◌, length, Option, Some, None, Bor, Vec, Global, refl, sym, ap, ◌∙◌, subst, arith, length-append, slice_get, option_map}
use Rattle.std.specs.List.{flat_map}
use Rattle.std.specs.Slice.{IsItemAt}
use Rattle.std.proofs.lemmas.Option.{slice_get_read}
use Rattle.arrow_types.specs.declared.schema.Schema.{Schema}
use Rattle.arrays.specs.Batch.{BatchAt, rows_of}
use Rattle.arrays.specs.TypedLayouts.{AreOfTypes}
use Rattle.batch_stats.specs.declared.beginnings.Beginnings.{Beginnings}
use Rattle.batch_stats.specs.declared.owned_stats.OwnedStats.{OwnedStats}
use Rattle.batch_stats.specs.declared.side.Side.{Side}
use Rattle.batch_stats.specs.Columns.{stats_in}
use Rattle.batch_stats.specs.Beginnings.{AreBeginnings}
use Rattle.batch_stats.specs.OwnedStats.{AreKept}
use Rattle.batch_stats.specs.Sides.{side_at}
use Rattle.batch_stats.specs.Stats.{StatsAt}
use Rattle.scan_base.specs.Limits.{most_rows}
use Rattle.table_versions.specs.declared.placed_batch.PlacedBatch.{PlacedBatch}
use Rattle.table_versions.specs.declared.stats_page.StatsPage.{StatsPage}
use Rattle.table_versions.specs.KeptTables.{AreSound, IsKept, Stands}
use Rattle.table_versions.specs.StatsPages.{AreOfBatch, AreRowsFrom, AreStatsFrom, IsPageFrom, ArePages, AreStored}
use Rattle.table_versions.specs.StoredTables.{TableAt, has_rows}
use Rattle.table_versions.specs.Batches.{ArePlaced, placed_table}
use Rattle.table_versions.proofs.Placing.{batches, batches_push, batch_there, placed_push}
use Rattle.table_versions.proofs.Storable.{IsBatch, batch_at}

-- what is so of each item at its place, and of one more after them
pub each_push : {X : Type 0} (P : ℕ → X → Type 0) (xs : List X) (new : X) → ((i : ℕ) (x : X) → slice_get xs i ≡ Some x → P i x) → P (length xs) new →
    (i : ℕ) (x : X) → slice_get (xs ++ new ∷ []) i ≡ Some x → P i x
each_push P [] new each last zero x at = let same : new ≡ x = cc in subst (P 0) same last
each_push P [] new each last (suc i) x at = cc
each_push P (y ∷ ys) new each last zero x at = each zero x at
each_push P (y ∷ ys) new each last (suc i) x at = each_push (λ j. P (suc j)) ys new (λ j z e. each (suc j) z e) last i x at

-- what stands at a place stands there among more
pub got_append : {X Y : Type 0} (f : X → Y) (xs more : List X) (j : ℕ) (y : Y) → option_map f (slice_get xs j) ≡ Some y → option_map f (slice_get (xs ++ more) j) ≡ Some y
got_append f [] more j y at = cc
got_append f (x ∷ xs) more zero y at = at
got_append f (x ∷ xs) more (suc j) y at = got_append f xs more j y at

there_append : {X : Type 0} (xs more : List X) (j : ℕ) (y : X) → slice_get xs j ≡ Some y → slice_get (xs ++ more) j ≡ Some y
there_append [] more j y at = cc
there_append (x ∷ xs) more zero y at = at
there_append (x ∷ xs) more (suc j) y at = there_append xs more j y at

-- pages are right, whatever batches come after
pub pages_append : (batches more : List BatchAt) (pages : List StatsPage) → ArePages batches pages → ArePages (batches ++ more) pages
pages_append batches more pages are = record {
  few = omega (arith, are.few, length-append batches more);
  each = λ p page at.
      let is = are.each p page at in
      record {
        rows = λ i n one. got_append (λ (batch : BatchAt). batch.rows) batches more (p * 256 + i) n (is.rows i n one);
        columns = λ column all there i owned one.
            let of = is.columns column all there i owned one in
            (of.0, there_append batches more (p * 256 + i) of.0 of.1, of.2);
      };
}

-- one page more
pub pages_push : (batches : List BatchAt) (pages : List StatsPage) (page : StatsPage) → ArePages batches pages → length pages < length batches →
    IsPageFrom batches (length pages * 256) page → ArePages batches (pages ++ page ∷ [])
pages_push batches pages page are more is = record {
  few = omega (arith, more, length-append pages (page ∷ []));
  each = each_push (λ p one. IsPageFrom batches (p * 256) one) pages page are.each is;
}

-- one batch more
pub stored_push : (schema : Schema) (placed : List PlacedBatch) (pages : List StatsPage) (rows : ℕ) → AreStored schema placed pages rows →
    (batch : BatchAt) (more : ℕ) → IsTrue (has_rows batch) → AreOfTypes schema.fields batch.columns → Stands batch → AreSound schema.fields (rows_of batch) →
    length (flat_map rows_of (batches placed)) + batch.rows ≤ most_rows → more ≡ rows + batch.rows →
    AreStored schema (placed ++ record { batch = batch; start = rows } ∷ []) pages more
stored_push schema placed pages rows are batch more filled typed stands sound few e = record {
  placed = placed_push schema placed rows are.placed batch more filled typed stands sound few e;
  paged = subst (λ (some : List BatchAt). ArePages some pages) (sym (batches_push placed (record { batch = batch; start = rows })))
      (pages_append (batches placed) (batch ∷ []) pages are.paged);
}

module _ (all : List BatchAt) (first index : ℕ) (batch : BatchAt) (there : slice_get all index ≡ Some batch) where
  -- the rows of one batch more
  pub rows_more : (rows : List ℕ) → AreRowsFrom all first rows → first + length rows ≡ index → AreRowsFrom all first (rows ++ batch.rows ∷ [])
  rows_more rows are long =
      each_push (λ i n. option_map (λ (one : BatchAt). one.rows) (slice_get all (first + i)) ≡ Some n) rows batch.rows are
      (subst (λ (j : ℕ). option_map (λ (one : BatchAt). one.rows) (slice_get all j) ≡ Some batch.rows) (sym long) (ap (option_map (λ (one : BatchAt). one.rows)) there))

  -- and the statistics of its column
  pub stats_more : (column : ℕ) (stats : List OwnedStats) (next : OwnedStats) → AreKept next (stats_in batch.columns column) → AreStatsFrom all first column stats →
      first + length stats ≡ index → AreStatsFrom all first column (stats ++ next ∷ [])
  stats_more column stats next kept are long =
      each_push (λ i owned. AreOfBatch all (first + i) column owned) stats next are
      (subst (λ (j : ℕ). AreOfBatch all j column next) (sym long) (batch, there, kept))

-- a batch that has its place is one of the table
pub is_batch : (schema : Schema) (placed : List PlacedBatch) (rows : ℕ) → ArePlaced schema placed rows → (i : ℕ) (one : PlacedBatch) → slice_get placed i ≡ Some one →
    IsBatch schema one.batch
is_batch schema placed rows are i one at = batch_at (placed_table schema placed) rows i one.batch are.kept (batch_there placed i one at)

-- ---- what is read of pages

-- an item that is lent stands at its place
pub lent_at : {X : Type 0} (xs : List X) (i : ℕ) (x : Bor X) → IsItemAt xs i (Some x) → slice_get xs i ≡ Some x.now
lent_at xs i x at = slice_get_read xs (length xs) i x.now refl at.3.0 at.1

-- the statistics that are lent of a page are those of the batch
pub paged_stats : (all : List BatchAt) (index : ℕ) (page : StatsPage) → IsPageFrom all (index / 256 * 256) page → (column : ℕ) (list : Vec OwnedStats Global) →
    slice_get page.columns.items column ≡ Some list → (found : Option (Bor OwnedStats)) → IsItemAt list.items (index % 256) found →
    IfSome found (λ owned. AreOfBatch all index column owned.now)
paged_stats all index page is column list there None at = tt
paged_stats all index page is column list there (Some owned) at =
    let place : index / 256 * 256 + index % 256 ≡ index = omega arith in
    subst (λ (j : ℕ). AreOfBatch all j column owned.now) place (is.columns column list there (index % 256) owned.now (lent_at list.items (index % 256) owned at))

module _ (all : List BatchAt) (index column : ℕ) (owned : OwnedStats) (of : AreOfBatch all index column owned) where
  -- and so are the values that these have
  pub paged_side : (found : Option Side) → IfSome found (λ side. (stats : StatsAt) → AreKept owned stats → stats ≡ side_at side) →
      IfSome found (λ side. option_map (λ (batch : BatchAt). stats_in batch.columns column) (slice_get all index) ≡ Some (side_at side))
  paged_side None held = tt
  paged_side (Some side) held =
      ap (option_map (λ (batch : BatchAt). stats_in batch.columns column)) of.1 ∙ ap Some (held (stats_in of.0.columns column) of.2)

  -- and the beginnings of its texts
  pub paged_beginnings : (found : Option Beginnings) → IfSome found (λ known. (stats : StatsAt) → AreKept owned stats → AreBeginnings known stats) →
      IfSome found (λ known. (batch : BatchAt) × (slice_get all index ≡ Some batch) × AreBeginnings known (stats_in batch.columns column))
  paged_beginnings None held = tt
  paged_beginnings (Some known) held = (of.0, of.1, held (stats_in of.0.columns column) of.2)

module _ (table : TableAt) (rows : ℕ) (kept : IsKept table rows) where
  -- a batch of which the rows are known has some
  pub rows_filled : (i n : ℕ) → option_map (λ (batch : BatchAt). batch.rows) (slice_get table.batches i) ≡ Some n → 0 < n
  rows_filled i n at = by (slice_get table.batches i) refl at
    where
      by : (found : Option BatchAt) → slice_get table.batches i ≡ found → option_map (λ (batch : BatchAt). batch.rows) found ≡ Some n → 0 < n
      by None e at = absurd (let no : ⊥ = cc in no)
      by (Some batch) e at =
          let same : batch.rows ≡ n = cc in
          omega (arith, (batch_at table rows i batch kept e).filled, same)

  -- and each has a column for each field
  pub columns_wide : (i : ℕ) → IfSome (slice_get table.batches i) (λ batch. length batch.columns ≡ length table.schema.fields)
  columns_wide i = by (slice_get table.batches i) refl
    where
      by : (found : Option BatchAt) → slice_get table.batches i ≡ found → IfSome found (λ batch. length batch.columns ≡ length table.schema.fields)
      by None e = tt
      by (Some batch) e = (batch_at table rows i batch kept e).wide

-- what is so is so of any answer
pub of_any : {A P : Type 0} (answer : Option A) → P → IfSome answer (λ _. P)
of_any None p = tt
of_any (Some a) p = p

pub rows_all_filled : (table : TableAt) (rows : ℕ) → IsKept table rows → (i : ℕ) (found : Option ℕ) →
    IfSome found (λ n. option_map (λ (batch : BatchAt). batch.rows) (slice_get table.batches i) ≡ Some n) → IfSome found (λ n. 0 < n)
rows_all_filled table rows kept i None at = tt
rows_all_filled table rows kept i (Some n) at = rows_filled table rows kept i n at

-- the rows that are lent of a page are those of the batch
pub paged_rows : (all : List BatchAt) (index : ℕ) (page : StatsPage) → IsPageFrom all (index / 256 * 256) page → (found : Option (Bor ℕ)) →
    IsItemAt page.rows.items (index % 256) found →
    IfSome (option_map (λ (rows : Bor ℕ). rows.now) found) (λ n. option_map (λ (batch : BatchAt). batch.rows) (slice_get all index) ≡ Some n)
paged_rows all index page is None at = tt
paged_rows all index page is (Some rows) at =
    let place : index / 256 * 256 + index % 256 ≡ index = omega arith in
    subst (λ (j : ℕ). option_map (λ (batch : BatchAt). batch.rows) (slice_get all j) ≡ Some rows.now) place
    (is.rows (index % 256) rows.now (lent_at page.rows.items (index % 256) rows at))
