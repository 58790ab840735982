-- Batches that may be stored.
use Rattle.std.proofs.Common.{◌≡◌, ◌≤◌, ◌<◌, ◌||◌, ℕ, zero, suc, Bool, true, false, List, [], ◌∷◌, ◌++◌, length, Some, refl, sym, ◌∙◌, arith, rules, slice_get, subst, All}
use Rattle.std.specs.List.{list_any, flat_map}
use Rattle.std.proofs.lemmas.List.Elements.{All-push, All-get_or}
use Rattle.std.proofs.lemmas.List.Folds.{list_any-append}
use Rattle.std.proofs.lemmas.Option.{slice_get_within, get_or_from_slice_get}
use Rattle.std.proofs.lemmas.Bool.{or_from}
use Rattle.arrow_types.specs.declared.schema.Field.{Field}
use Rattle.arrow_types.specs.declared.schema.Schema.{Schema}
use Rattle.arrays.specs.Column.{ColumnAt}
use Rattle.arrays.specs.Batch.{BatchAt, rows_of}
use Rattle.arrays.specs.TypedLayouts.{AreOfTypes}
use Rattle.table_versions.specs.Table.{Row, has_bad_cell, is_long_text}
use Rattle.table_versions.specs.StoredTables.{TableAt, has_rows}
use Rattle.table_versions.specs.KeptTables.{IsStorable, AreSound, IsKept}
use Rattle.shared_pages.proofs.Lists.{all_at}

abbrev pub AreTyped : List Field → BatchAt → Type 0
AreTyped fields batch = AreOfTypes fields batch.columns

-- one batch more
pub storable_push : (schema : Schema) (batches : List BatchAt) (batch : BatchAt) → IsStorable schema batches →
    AreOfTypes schema.fields batch.columns → IsStorable schema (batches ++ batch ∷ [])
storable_push schema batches batch s typed = record {
  valid = s.valid;
  typed = All-push (AreTyped schema.fields) batches batch s.typed typed;
}

-- there is a column for each field
pub length-typed : (fields : List Field) (columns : List ColumnAt) → AreOfTypes fields columns → length columns ≡ length fields
length-typed [] [] typed = refl
length-typed [] (column ∷ columns) typed = absurd typed
length-typed (field ∷ fields) [] typed = absurd typed
length-typed (field ∷ fields) (column ∷ columns) typed = omega (arith, length-typed fields columns typed.1)

-- a test that fails of the whole
pub first_false : (a b : Bool) → (a || b) ≡ false → a ≡ false
first_false true b h = h
first_false false b h = refl

pub second_false : (a b : Bool) → (a || b) ≡ false → b ≡ false
second_false true b h = let no : true ≡ false = h in cc
second_false false b h = h

-- sound rows and sound rows after them
pub sound-append : (fields : List Field) (front rest : List Row) → AreSound fields front → AreSound fields rest → AreSound fields (front ++ rest)
sound-append fields front rest f r = record {
  nulls = list_any-append (has_bad_cell fields) front rest ∙ or_from _ _ f.nulls r.nulls;
  texts = list_any-append (list_any is_long_text) front rest ∙ or_from _ _ f.texts r.texts;
}

pub sound-front : (fields : List Field) (front rest : List Row) → AreSound fields (front ++ rest) → AreSound fields front
sound-front fields front rest s = record {
  nulls = first_false _ _ (sym (list_any-append (has_bad_cell fields) front rest) ∙ s.nulls);
  texts = first_false _ _ (sym (list_any-append (list_any is_long_text) front rest) ∙ s.texts);
}

pub sound-rest : (fields : List Field) (front rest : List Row) → AreSound fields (front ++ rest) → AreSound fields rest
sound-rest fields front rest s = record {
  nulls = second_false _ _ (sym (list_any-append (has_bad_cell fields) front rest) ∙ s.nulls);
  texts = second_false _ _ (sym (list_any-append (list_any is_long_text) front rest) ∙ s.texts);
}

-- the rows of one batch more
pub sound_push : (fields : List Field) (batches : List BatchAt) (batch : BatchAt) → AreSound fields (flat_map rows_of batches) →
    AreSound fields (rows_of batch) → AreSound fields (flat_map rows_of (batches ++ batch ∷ []))
sound_push fields [] batch s t = sound-append fields (rows_of batch) [] t (record { nulls = refl; texts = refl })
sound_push fields (first ∷ batches) batch s t =
    let more = sound_push fields batches batch (sound-rest fields (rows_of first) (flat_map rows_of batches) s) t in
    sound-append fields (rows_of first) (flat_map rows_of (batches ++ batch ∷ [])) (sound-front fields (rows_of first) (flat_map rows_of batches) s) more

-- the rows of one batch of many
sound_at : (fields : List Field) (batches : List BatchAt) (i : ℕ) (batch : BatchAt) → AreSound fields (flat_map rows_of batches) →
    slice_get batches i ≡ Some batch → AreSound fields (rows_of batch)
sound_at fields [] i batch s at = cc
sound_at fields (first ∷ batches) zero batch s at =
    let same : first ≡ batch = cc in
    subst (λ (b : BatchAt). AreSound fields (rows_of b)) same (sound-front fields (rows_of first) (flat_map rows_of batches) s)
sound_at fields (first ∷ batches) (suc i) batch s at = sound_at fields batches i batch (sound-rest fields (rows_of first) (flat_map rows_of batches) s) at

-- an item of a list of which all are so
all_get : {X : Type 0} (P : X → Type 0) (xs : List X) (x : X) (i : ℕ) → All P xs → slice_get xs i ≡ Some x → P x
all_get P xs x i all at = subst P (get_or_from_slice_get xs i x x at) (All-get_or P xs i x (slice_get_within xs i x at) all)

-- what a batch of a table is
pub record IsBatch (schema : Schema) (batch : BatchAt) : Type 0 where
  pub filled : 0 < batch.rows
  pub typed : AreOfTypes schema.fields batch.columns
  pub wide : length batch.columns ≡ length schema.fields
  pub few : length batch.columns ≤ 64
  pub sound : AreSound schema.fields (rows_of batch)

pub batch_at : (table : TableAt) (rows i : ℕ) (batch : BatchAt) → IsKept table rows → slice_get table.batches i ≡ Some batch → IsBatch table.schema batch
batch_at table rows i batch kept at =
    let typed = all_get (AreTyped table.schema.fields) table.batches batch i kept.storable.typed at in
    let wide = length-typed table.schema.fields batch.columns typed in
    record {
      filled = search (rules, all_at has_rows table.batches batch i kept.filled at);
      typed = typed;
      wide = wide;
      few = omega (arith, wide, kept.storable.valid.few);
      sound = sound_at table.schema.fields table.batches i batch kept.sound at;
    }
