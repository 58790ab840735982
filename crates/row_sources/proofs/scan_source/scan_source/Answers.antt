use Rattle.std.proofs.Common.{◌≡◌, ℕ, true, List, [], ◌∷◌, length, map, max, min, ap, sym, ◌∙◌, subst, arith}
use Rattle.std.specs.List.{range_with_len}
use Rattle.arrow_types.specs.declared.schema.Field.{Field}
use Rattle.arrow_types.specs.declared.schema.Schema.{Schema}
use Rattle.typed_plan.specs.Plan.{scan}
use Rattle.typed_plan.specs.TypedPlans.{has_columns, types_of, type_at}
use Rattle.row_sources.specs.BegunRows.{IsBegun}
use Rattle.batch_skipping.specs.ChosenColumns.{are_within}
use Rattle.row_sources.specs.ChosenColumns.{numbers_at}
use Rattle.row_sources.specs.Picking.{PickAt, IsPick}
use Rattle.row_sources.specs.PlaceCursor.{Begins}
use Rattle.row_sources.specs.Running.{picked_of}
use Rattle.row_sources.proofs.Batched.{from_few}
use Rattle.row_sources.proofs.BeginPick.{numbers_within}
use Rattle.row_sources.proofs.BeginTree.{scan_begun, scan_pick, pick_is}
use Rattle.batch_skipping.specs.OpenedBatches.{batches_in}
use Rattle.row_sources.proofs.Opening.{in_clamped}
use Rattle.row_sources.proofs.Piecing.{place_of}
use Rattle.std.proofs.lemmas.List.FromFn.{length-range_with_len}
use Rattle.row_sources.proofs.scan_source.scan_source.Goals as goal

pub picked-requires : goal.picked-requires
picked-requires c =
    let fields : List Field = c.as_slice-fields.result.now in
    let same : fields ≡ c.args.table.schema.fields = c.as_slice-fields.ensures ∙ ap (λ (s : Schema). s.fields) c.schema.ensures in
    let size = c.as_slice.ensures.value in
    subst (λ (numbers : List ℕ). has_columns (length numbers) c.args.columns.now ≡ true) (sym (size ∙ c.in_ok-numbers.ensures))
    (subst (λ (n : ℕ). has_columns n c.args.columns.now ≡ true) (sym (length-range_with_len 0 (length fields)))
    (subst (λ (some : List Field). has_columns (length some) c.args.columns.now ≡ true) (sym same) c.requires.there))

pub types_at-requires : goal.types_at-requires
types_at-requires c =
    let fields : List Field = c.as_slice-fields.result.now in
    let same : fields ≡ c.args.table.schema.fields = c.as_slice-fields.ensures ∙ ap (λ (s : Schema). s.fields) c.schema.ensures in
    let numbers : c.as_slice-2.result.now ≡ numbers_at c.args.columns.now (range_with_len 0 (length fields)) =
    c.as_slice-2.ensures.value ∙ c.in_ok-columns.ensures ∙ ap (numbers_at c.args.columns.now) (c.as_slice.ensures.value ∙ c.in_ok-numbers.ensures) in
    subst (λ (some : List ℕ). are_within (length fields) some ≡ true) (sym numbers)
    (numbers_within c.args.columns.now (length fields) (subst (λ (some : List Field). has_columns (length some) c.args.columns.now ≡ true) (sym same) c.requires.there))

pub returns-clause-sourced : goal.returns-clause-sourced
returns-clause-sourced c =
    let fields : List Field = c.as_slice-fields.result.now in
    let table = c.args.table in
    let same : fields ≡ table.schema.fields = c.as_slice-fields.ensures ∙ ap (λ (s : Schema). s.fields) c.schema.ensures in
    let numbers : c.in_ok-columns.columns.items ≡ numbers_at c.args.columns.now (range_with_len 0 (length table.schema.fields)) =
    c.in_ok-columns.ensures ∙ ap (numbers_at c.args.columns.now) (c.as_slice.ensures.value ∙ c.in_ok-numbers.ensures
    ∙ ap (λ (some : List Field). range_with_len 0 (length some)) same) in
    let pick = pick_is c.new.result.items c.in_ok-columns.columns.items (numbers_at c.args.columns.now (range_with_len 0 (length table.schema.fields))) c.new.ensures.items numbers in
    let kept = c.rows.ensures.kept in
    let range : c.max-to.result ≡ max (min c.args.reading.to c.rows.result) c.args.reading.from = c.max-to.ensures ∙ ap (λ (n : ℕ). max n c.args.reading.from) c.min.ensures in
    let begins = subst (λ (n : ℕ). Begins c.args.reading.from n c.new-cursor.result) range c.new-cursor.ensures.begins in
    record {
      source = c.new-cursor.ensures.placed;
      pick = subst (λ (p : PickAt). IsPick (length (types_of table.schema.fields)) p) (sym pick)
          (scan_pick table c.args.columns.now c.args.reading.from c.args.reading.to c.rows.result c.requires.there kept.counted kept.storable.typed c.new-cursor.result begins);
      types = c.in_ok-types.ensures ∙ ap (λ (some : List Field). map (type_at (types_of some)) c.as_slice-2.result.now) same
          ∙ ap (map (type_at (types_of table.schema.fields))) c.as_slice-2.ensures.value;
    }

pub returns-clause-begun : goal.returns-clause-begun
returns-clause-begun c name =
    let fields : List Field = c.as_slice-fields.result.now in
    let table = c.args.table in
    let same : fields ≡ table.schema.fields = c.as_slice-fields.ensures ∙ ap (λ (s : Schema). s.fields) c.schema.ensures in
    let numbers : c.in_ok-columns.columns.items ≡ numbers_at c.args.columns.now (range_with_len 0 (length table.schema.fields)) =
    c.in_ok-columns.ensures ∙ ap (numbers_at c.args.columns.now) (c.as_slice.ensures.value ∙ c.in_ok-numbers.ensures
    ∙ ap (λ (some : List Field). range_with_len 0 (length some)) same) in
    let pick = pick_is c.new.result.items c.in_ok-columns.columns.items (numbers_at c.args.columns.now (range_with_len 0 (length table.schema.fields))) c.new.ensures.items numbers in
    let kept = c.rows.ensures.kept in
    let range : c.max-to.result ≡ max (min c.args.reading.to c.rows.result) c.args.reading.from = c.max-to.ensures ∙ ap (λ (n : ℕ). max n c.args.reading.from) c.min.ensures in
    let begins = subst (λ (n : ℕ). Begins c.args.reading.from n c.new-cursor.result) range c.new-cursor.ensures.begins in
    subst (λ (p : PickAt). IsBegun (scan name table.schema c.args.columns.now) (table ∷ []) c.args.reading.from c.args.reading.to (picked_of p (place_of table c.new-cursor.result))) (sym pick)
    (scan_begun table c.args.columns.now c.args.reading.from c.args.reading.to c.rows.result c.requires.there kept.counted kept.storable.typed c.new-cursor.result begins name)

pub returns-clause-few : goal.returns-clause-few
returns-clause-few c = from_few 0 c.new-cursor.result.at c.new-cursor.result.to c.args.table.batches

pub new-cursor-requires-clause-each : goal.new-cursor-requires-clause-each
new-cursor-requires-clause-each c =
    let range : c.max-to.result ≡ max (min c.args.reading.to c.rows.result) c.args.reading.from = c.max-to.ensures ∙ ap (λ (n : ℕ). max n c.args.reading.from) c.min.ensures in
    ap (λ (n : ℕ). batches_in c.args.reading.from n c.args.table.batches) range
    ∙ in_clamped c.args.reading.from c.args.reading.to c.rows.result c.args.table.batches (omega (arith, c.rows.ensures.kept.counted)) ∙ c.requires.each
