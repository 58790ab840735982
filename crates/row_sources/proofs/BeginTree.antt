-- What gives the rows of a table, and of a filter.
use Rattle.std.proofs.Common.{◌≡◌, ◌<◌, ℕ, ◌+◌, true, All, List, [], ◌∷◌, ◌++◌, length, map, max, min, nat_lt, refl, sym, ap, ◌∙◌, subst, arith, get_or, take, option_map, unwrap_or, Option}
use Rattle.std.specs.Prelude.{IsTrue}
use Rattle.std.proofs.lemmas.List.{map-append, take_more, length-map}
use Rattle.std.proofs.lemmas.Option.{slice_get-map, slice_get_read}
use Rattle.arrow_types.specs.declared.data_type.DataType.TheVariants.{Utf8}
use Rattle.scan_base.specs.declared.predicate.Predicate.{Predicate}
use Rattle.scan_base.specs.View.{pred_of}
use Rattle.row_sources.proofs.Cells.{within_at}
use Rattle.batch_skipping.specs.ChosenColumns.{are_within}
use Rattle.std.specs.List.{AllZip, filter, flat_map, range_with_len}
use Rattle.std.proofs.lemmas.List.Elements.{All-push, length_all_zip}
use Rattle.arrow_types.specs.Answer.{LiesAs}
use Rattle.arrow_types.specs.declared.data_type.DataType.{DataType}
use Rattle.arrow_types.specs.declared.schema.Field.{Field}
use Rattle.arrays.specs.Batch.{BatchAt, rows_of}
use Rattle.arrays.specs.TypedLayouts.{AreOfTypes}
use Rattle.scan_base.specs.Predicate.{Pred, names_only}
use Rattle.table_versions.specs.StoredTables.{TableAt}
use Rattle.table_versions.specs.Table.{Name, Row}
use Rattle.typed_plan.specs.declared.plan.Columns.{Columns}
use Rattle.typed_plan.specs.Plan.{Tree, scan, filtered, is_true}
use Rattle.typed_plan.specs.TypedPlans.{has_columns, type_at, types_of, tree_types}
use Rattle.row_sources.specs.declared.cursor.Cursor.{Cursor}
use Rattle.row_sources.specs.BegunRows.{IsBegun, tree_given}
use Rattle.row_sources.specs.ChosenColumns.{numbers_at}
use Rattle.rewrite.specs.Places.{rows_over}
use Rattle.row_sources.specs.Parts.{first_batches, further_rows, numbered_parts}
use Rattle.batch_skipping.specs.OpenedBatches.{batches_in}
use Rattle.row_sources.specs.Picking.{IsPick, given_numbered}
use Rattle.row_sources.specs.PlaceCursor.{Begins, rows_ahead}
use Rattle.row_sources.specs.Running.{RowsAt, picked_of}
use Rattle.row_sources.proofs.Batched.{numbered_from}
use Rattle.row_sources.proofs.BeginPick.{pick_with, given_wide, filter_more, filter_over, parts_given, clamped_from, types_read, numbers_within}
use Rattle.row_sources.proofs.JoinSteps.{as_many}
use Rattle.row_sources.proofs.Lying.{lie_alone}
use Rattle.row_sources.proofs.Opening.{in_clamped, none_in}
use Rattle.row_sources.proofs.Piecing.{place_of}
use Rattle.row_sources.proofs.Shown.{of_types}

-- as many types as fields
pub types_many : (fields : List Field) → length (types_of fields) ≡ length fields
types_many fields = length-map fields (λ (field : Field). field.data_type)

-- batches of fields have as many columns
pub fields_wide : (fields : List Field) (batches : List BatchAt) → All (λ (batch : BatchAt). AreOfTypes fields batch.columns) batches →
    All (λ (batch : BatchAt). length batch.columns ≡ length fields) batches
fields_wide fields batches typed k d h =
    as_many (types_of fields) _ (of_types fields _ (typed k d h)) ∙ types_many fields

-- the type of a field more
pub types_more : (fields : List Field) (numbers : List ℕ) (i : ℕ) (field : Field) → i < length numbers → are_within (length fields) numbers ≡ true →
    field ≡ get_or fields (get_or numbers i 0) field →
    map (type_at (types_of fields)) (take (i + 1) numbers) ≡ map (type_at (types_of fields)) (take i numbers) ++ field.data_type ∷ []
types_more fields numbers i field h all is =
    let number = get_or numbers i 0 in
    let type_in : Field → DataType = λ (f : Field). f.data_type in
    let there = slice_get_read fields (length fields) number field refl (within_at (length fields) numbers i all h) is in
    let one : type_at (types_of fields) number ≡ field.data_type =
    ap (λ (found : Option DataType). unwrap_or found Utf8) (slice_get-map type_in fields number ∙ ap (option_map type_in) there) in
    ap (map (type_at (types_of fields))) (take_more numbers i 0 h)
    ∙ map-append (type_at (types_of fields)) (take i numbers) (number ∷ [])
    ∙ ap (λ (last : DataType). map (type_at (types_of fields)) (take i numbers) ++ last ∷ []) one

-- no filters
pub pick_is : (filters : List (Predicate ℕ)) (given numbers : List ℕ) → filters ≡ [] → given ≡ numbers →
    record { filters = map pred_of filters; read = given; shown = given } ≡ pick_with [] numbers
pick_is filters given numbers e f = rw (e, f) refl

-- ---- columns of a table

module _ (table : TableAt) (some : Columns) (from to rows : ℕ) (there : has_columns (length table.schema.fields) some ≡ true)
    (counted : rows ≡ length (flat_map rows_of table.batches)) (typed : All (λ (batch : BatchAt). AreOfTypes table.schema.fields batch.columns) table.batches)
    (cursor : Cursor) (begins : Begins from (max (min to rows) from) cursor) where
  abbrev width : ℕ
  width = length table.schema.fields

  abbrev pub shown : List ℕ
  shown = numbers_at some (range_with_len 0 width)

  abbrev pub scan_rows : RowsAt
  scan_rows = picked_of (pick_with [] shown) (place_of table cursor)

  scan_ahead : (name : Name) → scan_rows.ahead ≡ tree_given (scan name table.schema some) (table ∷ []) from to
  scan_ahead name =
      ap (λ (n : ℕ). given_numbered (pick_with [] shown) (numbered_from 0 n cursor.to table.batches)) begins.at_is
      ∙ ap (λ (n : ℕ). given_numbered (pick_with [] shown) (numbered_from 0 from n table.batches)) begins.to_is
      ∙ ap (given_numbered (pick_with [] shown)) (clamped_from 0 from to rows table.batches counted)
      ∙ parts_given width some there 0 from to table.batches (fields_wide table.schema.fields table.batches typed)

  pub scan_begun : (name : Name) → IsBegun (scan name table.schema some) (table ∷ []) from to scan_rows
  scan_begun name = record {
    types = subst (λ (given : List DataType). AllZip LiesAs given scan_rows.types)
        (types_read some (types_of table.schema.fields) width (types_many table.schema.fields) there) (lie_alone scan_rows.types);
    ahead = scan_ahead name;
    wide = given_wide (pick_with [] shown) (length scan_rows.types) (sym (length-map shown (type_at (types_of table.schema.fields)))) (rows_ahead table cursor);
    batches = ap (λ (n : ℕ). batches_in n cursor.to table.batches) begins.from_is ∙ ap (λ (n : ℕ). batches_in from n table.batches) begins.to_is
        ∙ in_clamped from to rows table.batches (omega (arith, counted));
    opened = none_in cursor.from cursor.at table.batches (omega (arith, begins.from_is, begins.at_is));
  }

  pub scan_pick : IsPick (length (types_of table.schema.fields)) (pick_with [] shown)
  scan_pick = subst (λ (n : ℕ). IsPick n (pick_with [] shown)) (sym (types_many table.schema.fields)) (record {
    read = numbers_within some width there;
    shown = numbers_within some width there;
    named = λ k d h. absurd (omega (arith, h));
  })

-- ---- a filter

module _ (source : RowsAt) (filters : List (Pred ℕ)) (predicate : Pred ℕ) (numbers : List ℕ) (tree : Tree) (tables : List TableAt) (from to : ℕ)
    (is : IsBegun tree tables from to (picked_of (pick_with filters numbers) source)) where
  abbrev pub filter_rows : RowsAt
  filter_rows = picked_of (pick_with (filters ++ predicate ∷ []) numbers) source

  pub filter_begun : IsBegun (filtered predicate tree) tables from to filter_rows
  filter_begun = record {
    types = is.types;
    ahead = filter_more filters predicate numbers source.ahead
        ∙ ap (filter (λ (row : ℕ × Row). is_true predicate row.1)) is.ahead
        ∙ filter_over (is_true predicate) (λ (rows : List Row). rows_over tree (rows ∷ further_rows tables)) (numbered_parts from to (first_batches tables));
    wide = given_wide (pick_with (filters ++ predicate ∷ []) numbers) (length filter_rows.types) (sym (length-map numbers (type_at source.types))) source.ahead;
    batches = is.batches;
    opened = is.opened;
  }

  -- as many columns are given as there are types
  many : length (tree_types tree) ≡ length numbers
  many = length_all_zip LiesAs (tree_types tree) (map (type_at source.types) numbers) is.types ∙ length-map numbers (type_at source.types)

  pub filter_pick : (wide : ℕ) → IsPick wide (pick_with filters numbers) →
      IsTrue (names_only (λ column. nat_lt column (length (tree_types tree))) predicate) → IsPick wide (pick_with (filters ++ predicate ∷ []) numbers)
  filter_pick wide pick named = record {
    read = pick.read;
    shown = pick.shown;
    named = All-push (λ (p : Pred ℕ). IsTrue (names_only (λ column. nat_lt column (length numbers)) p)) filters predicate pick.named
        (subst (λ (n : ℕ). IsTrue (names_only (λ column. nat_lt column n) predicate)) many named);
  }
