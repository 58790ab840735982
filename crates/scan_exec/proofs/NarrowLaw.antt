-- The rewritten plan over the batches that are opened gives what the plan gives over all.
use Rattle.std.proofs.Common.{◌≡◌, ◌<◌, ℕ, zero, suc, ◌+◌, ◌-◌, Bool, true, false, ◌&&◌, All, List, [], ◌∷◌, ◌++◌, length, map, get_or, slice_get, if◌then◌else◌, Option, Some, None, refl, sym, ap, ◌∙◌, subst, arith}
use Rattle.std.specs.List.{flat_map, range_with_len}
use Rattle.std.specs.Option.{option_to_list}
use Rattle.std.proofs.lemmas.Bool.{and_parts, ltb-true}
use Rattle.std.proofs.lemmas.List.{length-map, map-append}
use Rattle.std.proofs.lemmas.List.Elements.{All-head, All-tail}
use Rattle.arrow_types.specs.declared.schema.Schema.{Schema}
use Rattle.arrays.specs.Batch.{BatchAt, rows_of}
use Rattle.arrays.specs.TypedLayouts.{AreOfTypes}
use Rattle.scan_base.specs.Predicate.{Pred}
use Rattle.table_versions.specs.KeptTables.{IsKept}
use Rattle.table_versions.specs.Standing.{rows_before}
use Rattle.table_versions.specs.StoredTables.{TableAt, has_rows, table_of}
use Rattle.table_versions.specs.Table.{Row}
use Rattle.typed_plan.specs.declared.plan.Columns.{Columns}
use Rattle.typed_plan.specs.declared.plan.Columns.TheVariants as columns
use Rattle.typed_plan.specs.declared.plan.Output.{Output}
use Rattle.typed_plan.specs.declared.plan.Output.TheVariants.{Project, Groups}
use Rattle.typed_plan.specs.HeldTables.{tree_schemas}
use Rattle.typed_plan.specs.JoinedRows.{rows_between}
use Rattle.typed_plan.specs.Plan.{Tree, output_rows, taken}
use Rattle.typed_plan.specs.TypedPlans.{has_columns, is_grouping}
use Rattle.typed_plan.specs.View.{BoundAt, tree_of}
use Rattle.rewrite.specs.Laws.{AreWide, SkippingKeepsRows}
use Rattle.rewrite.specs.Places.{rows_over}
use Rattle.scan_exec.specs.Answering.{table_number, renumbered}
use Rattle.row_sources.specs.Parts.{first_batches, further_rows, numbered_parts}
use Rattle.scan_exec.specs.GivenRows.{given_of}
use Rattle.batch_skipping.specs.Narrow.{BeginsInFirst, batches_at, narrowed, narrowed_from, narrowed_to}
use Rattle.row_sources.specs.OpenedTables.{narrow_all}
use Rattle.rewrite.specs.SameRows.{StandsFor}
use Rattle.batch_skipping.specs.OpenedBatches.{batch_can, batches_in, given_width, has_row_in, numbers_behind, place_opened, scans_of, where_parts}
use Rattle.scan_exec.proofs.NarrowGiven.{all_same, none_in, range_same, through}
use Rattle.row_sources.proofs.BeginTree.{fields_wide}
use Rattle.row_sources.proofs.Narrowing.{all_at, at_many, filled_each, one_of, there_at}
use Rattle.row_sources.proofs.NarrowRange.{AreListed, all_in, before_next, begins_in_first, listed_of, listed_within, made_of, narrow_from, part_at, whole_made}
use Rattle.scan_exec.proofs.PlaceByPlace.{AllSame, EachSame, places_same}
use Rattle.scan_exec.proofs.Through.{IsDeep, first_need, need_behind, same_through}
use Rattle.scan_exec.proofs.TreeGives.{over_none}
use Rattle.scan_exec.proofs.Wide.{PlacesWide, Wide, are_wide, batch_wide, table_wide, wide_between}

abbrev pub schemas_of : List TableAt → List Schema
schemas_of tables = map (λ (table : TableAt). table.schema) tables

abbrev pub rows_in_all : List TableAt → List (List Row)
rows_in_all tables = map (λ (table : TableAt). (table_of table).rows) tables

-- the columns that scans give are there
abbrev pub Fit : List Columns → List TableAt → Type 0
Fit (some ∷ scans) (table ∷ tables) = (has_columns (length table.schema.fields) some ≡ true) × Fit scans tables
Fit _ _ = Unit {0}

-- a batch that cannot hold a row that is kept holds none, by the conjuncts of its place
pub record Holds (parts : List (Pred ℕ)) : Type 0 where
  pub first : (some : Columns) (table : TableAt) (i : ℕ) (batch : BatchAt) → has_columns (length table.schema.fields) some ≡ true → IsKept table (length (table_of table).rows) → slice_get table.batches i ≡ Some batch →
      batch_can parts 0 some table i ≡ false → through (first_need parts (given_width some (length table.schema.fields))) some (rows_of batch) ≡ []
  pub behind : (before : ℕ) (some : Columns) (table : TableAt) (i : ℕ) (batch : BatchAt) → has_columns (length table.schema.fields) some ≡ true → IsKept table (length (table_of table).rows) → slice_get table.batches i ≡ Some batch →
      batch_can parts before some table i ≡ false → through (need_behind parts before (given_width some (length table.schema.fields))) some (rows_of batch) ≡ []

module _ (parts : List (Pred ℕ)) (holds : Holds parts) where
  -- the further places let the same through
  each_same : (before : ℕ) (scans : List Columns) (tables : List TableAt) → Fit scans tables → All (λ (table : TableAt). IsKept table (length (table_of table).rows)) tables →
      EachSame parts before scans (schemas_of tables) (rows_in_all (narrow_all (numbers_behind parts before scans tables) tables)) (rows_in_all tables)
  each_same before [] tables fit kept = tt
  each_same before (some ∷ scans) [] fit kept = tt
  each_same before (some ∷ scans) (table ∷ tables) fit kept =
      let is_kept : TableAt → Type 0 = λ t. IsKept t (length (table_of t).rows) in
      let here = All-head is_kept table tables kept in
      let width = given_width some (length table.schema.fields) in (
        all_same (need_behind parts before width) some table (batch_can parts before some table) (λ i batch there off. holds.behind before some table i batch fit.0 here there off),
        each_same (before + width) scans tables fit.1 (All-tail is_kept table tables kept),
      )

-- places that are as wide as their tables
places_wide : (tables : List TableAt) → All (λ (table : TableAt). IsKept table (length (table_of table).rows)) tables → PlacesWide (schemas_of tables) (rows_in_all tables)
places_wide [] kept = tt
places_wide (table ∷ tables) kept =
    let is_kept : TableAt → Type 0 = λ t. IsKept t (length (table_of t).rows) in
    (table_wide table (All-head is_kept table tables kept).storable.typed, places_wide tables (All-tail is_kept table tables kept))

-- so are some of their batches
narrow_wide : (lists : List (List ℕ)) (tables : List TableAt) → All (λ (table : TableAt). IsKept table (length (table_of table).rows)) tables →
    PlacesWide (schemas_of tables) (rows_in_all (narrow_all lists tables))
narrow_wide lists [] kept = tt
narrow_wide [] (table ∷ tables) kept = none_wide (schemas_of (table ∷ tables))
  where
    none_wide : (schemas : List Schema) → PlacesWide schemas []
    none_wide [] = tt
    none_wide (schema ∷ schemas) = (tt, none_wide schemas)
narrow_wide (numbers ∷ lists) (table ∷ tables) kept =
    let is_kept : TableAt → Type 0 = λ t. IsKept t (length (table_of t).rows) in
    let here = All-head is_kept table tables kept in (
      table_wide (narrowed numbers table) (all_at (λ (batch : BatchAt). AreOfTypes table.schema.fields batch.columns) table.batches here.storable.typed numbers),
      narrow_wide lists tables (All-tail is_kept table tables kept),
    )

-- ---- a plan and what it was rewritten to

module _ (old new : BoundAt) (from to : ℕ) (some : Columns) (scans : List Columns) (table : TableAt) (tables : List TableAt)
    (skipping : SkippingKeepsRows) (same : StandsFor new old) (deep : IsDeep (tree_of old.plan)) (holds : Holds (where_parts (tree_of old.plan)))
    (scans_are : scans_of (tree_of old.plan) ≡ some ∷ scans) (schemas_are : tree_schemas (tree_of old.plan) ≡ schemas_of (table ∷ tables))
    (fit : Fit (some ∷ scans) (table ∷ tables)) (old_tables : old.tables ≡ table ∷ tables) (kept : All (λ (t : TableAt). IsKept t (length (table_of t).rows)) (table ∷ tables)) where
  abbrev tree : Tree
  tree = tree_of old.plan

  abbrev parts : List (Pred ℕ)
  parts = where_parts tree

  abbrev width : ℕ
  width = given_width some (length table.schema.fields)

  abbrev numbers : List ℕ
  numbers = place_opened parts 0 some from to table

  abbrev others : List TableAt
  others = narrow_all (numbers_behind parts width scans tables) tables

  abbrev a : ℕ
  a = narrowed_from from table.batches numbers

  abbrev b : ℕ
  b = narrowed_to to table.batches numbers

  is_kept : TableAt → Type 0
  is_kept t = IsKept t (length (table_of t).rows)

  here : IsKept table (length (table_of table).rows)
  here = All-head (λ (t : TableAt). IsKept t (length (table_of t).rows)) table tables kept

  behind : All (λ (t : TableAt). IsKept t (length (table_of t).rows)) tables
  behind = All-tail (λ (t : TableAt). IsKept t (length (table_of t).rows)) table tables kept

  hopeless : (i : ℕ) (batch : BatchAt) → slice_get table.batches i ≡ Some batch → batch_can parts 0 some table i ≡ false → through (first_need parts width) some (rows_of batch) ≡ []
  hopeless i batch there off = holds.first some table i batch fit.0 here there off

  -- what the plan and the new one give of rows of the first place
  abbrev give : List Row → List Row
  give rows = output_rows old.output (rows_over tree (rows ∷ rows_in_all tables))

  abbrev give_new : List Row → List Row
  give_new rows = output_rows new.output (rows_over (tree_of new.plan) (rows ∷ rows_in_all others))

  wide_with : (rows : List Row) → Wide (length table.schema.fields) rows → AreWide tree (rows ∷ rows_in_all tables)
  wide_with rows wide = are_wide tree (rows ∷ rows_in_all tables) (subst (λ (s : List Schema). PlacesWide s (rows ∷ rows_in_all tables)) (sym schemas_are) (wide, places_wide tables behind))

  wide_new : (rows : List Row) → Wide (length table.schema.fields) rows → AreWide tree (rows ∷ rows_in_all others)
  wide_new rows wide =
      are_wide tree (rows ∷ rows_in_all others)
      (subst (λ (s : List Schema). PlacesWide s (rows ∷ rows_in_all others)) (sym schemas_are) (wide, narrow_wide (numbers_behind parts width scans tables) tables behind))

  -- rows of the tree, where the first place lets the same through
  over_same : (one other : List Row) → Wide (length table.schema.fields) one → Wide (length table.schema.fields) other →
      through (first_need parts width) some one ≡ through (first_need parts width) some other →
      rows_over tree (one ∷ rows_in_all others) ≡ rows_over tree (other ∷ rows_in_all tables)
  over_same one other one_wide other_wide e =
      skipping tree (one ∷ rows_in_all others) (other ∷ rows_in_all tables) (wide_new one one_wide) (wide_with other other_wide)
      (same_through tree deep (one ∷ rows_in_all others) (other ∷ rows_in_all tables)
      (places_same parts tree deep (one ∷ rows_in_all others) (other ∷ rows_in_all tables)
      (subst (λ (s : List Schema). AllSame parts (scans_of tree) s (one ∷ rows_in_all others) (other ∷ rows_in_all tables)) (sym schemas_are)
      (subst (λ (c : List Columns). AllSame parts c (schemas_of (table ∷ tables)) (one ∷ rows_in_all others) (other ∷ rows_in_all tables)) (sym scans_are)
      (e, each_same parts holds width scans tables fit.1 behind)))))

  give_same : (one other : List Row) → Wide (length table.schema.fields) one → Wide (length table.schema.fields) other →
      through (first_need parts width) some one ≡ through (first_need parts width) some other → give_new one ≡ give other
  give_same one other one_wide other_wide e =
      same.places (one ∷ rows_in_all others) (wide_new one one_wide) ∙ ap (output_rows old.output) (over_same one other one_wide other_wide e)

  -- ---- the rows of a range, and of each batch

  part_wide : (i : ℕ) (batch : BatchAt) → slice_get table.batches i ≡ Some batch → Wide (length table.schema.fields) (part_at from to table.batches i batch)
  part_wide i batch there =
      wide_between (length table.schema.fields) (from - rows_before table.batches i) (to - rows_before table.batches i) (rows_of batch)
      (batch_wide batch (length table.schema.fields) (one_of (λ (b : BatchAt). length b.columns ≡ length table.schema.fields) table.batches
      (fields_wide table.schema.fields table.batches here.storable.typed) i batch there))

  -- groups
  pub groups_same : give_new (rows_between a b (table_of (narrowed numbers table)).rows) ≡ give (rows_between from to (table_of table).rows)
  groups_same =
      let width_of = length table.schema.fields in
      give_same (rows_between a b (table_of (narrowed numbers table)).rows) (rows_between from to (table_of table).rows)
      (wide_between width_of a b (table_of (narrowed numbers table)).rows
      (table_wide (narrowed numbers table) (all_at (λ (batch : BatchAt). AreOfTypes table.schema.fields batch.columns) table.batches here.storable.typed numbers)))
      (wide_between width_of from to (table_of table).rows (table_wide table here.storable.typed))
      (range_same (first_need parts width) some table (batch_can parts 0 some table) hopeless from to)

  -- rows one by one, each with the number of its batch
  abbrev make : ℕ → List Row → List (Option ℕ × Row)
  make i rows = map (λ row. (Some i, row)) (give rows)

  abbrev make_new : ℕ → List Row → List (Option ℕ × Row)
  make_new i rows = map (λ row. (Some i, row)) (give_new rows)

  made_same : (ns : List ℕ) → made_of from to table.batches make_new ns ≡ made_of from to table.batches make ns
  made_same [] = refl
  made_same (i ∷ ns) = by (slice_get table.batches i) refl (made_same ns)
    where
      by : (found : Option BatchAt) → slice_get table.batches i ≡ found → made_of from to table.batches make_new ns ≡ made_of from to table.batches make ns →
          flat_map (λ (batch : BatchAt). make_new i (part_at from to table.batches i batch)) (option_to_list found) ++ made_of from to table.batches make_new ns
          ≡ flat_map (λ (batch : BatchAt). make i (part_at from to table.batches i batch)) (option_to_list found) ++ made_of from to table.batches make ns
      by None e rest = rest
      by (Some batch) e rest =
          let rows = part_at from to table.batches i batch in
          let wide = part_wide i batch e in
          ap (λ (one : List Row). (map (λ row. (Some i, row)) one ++ []) ++ made_of from to table.batches make_new ns) (give_same rows rows wide wide refl)
          ∙ ap (λ (more : List (Option ℕ × Row)). (make i rows ++ []) ++ more) rest

  -- a batch that is not opened gives nothing
  make_none : (columns_out : Columns) → old.output ≡ Project columns_out → (i : ℕ) (batch : BatchAt) → slice_get table.batches i ≡ Some batch →
      (has_row_in from to table.batches i && batch_can parts 0 some table i) ≡ false → make i (part_at from to table.batches i batch) ≡ []
  make_none columns_out e i batch there off =
      let rows = part_at from to table.batches i batch in
      let none = none_in (first_need parts width) some table (batch_can parts 0 some table) hopeless from to i batch there off in
      let empty = through_nothing (first_need parts width) some in
      let over = sym (over_same rows rows (part_wide i batch there) (part_wide i batch there) refl)
      ∙ over_same rows [] (part_wide i batch there) tt (none ∙ sym empty) ∙ over_none tree (rows_in_all tables) in
      ap (map (λ row. (Some i, row))) (ap (output_rows old.output) over ∙ ap (λ (o : Output). output_rows o []) e ∙ taken_nothing columns_out)
    where
      taken_nothing : (c : Columns) → taken c [] ≡ []
      taken_nothing columns.All = refl
      taken_nothing (columns.These ns) = refl

      through_nothing : (need : List (Pred ℕ)) (c : Columns) → through need c [] ≡ []
      through_nothing need columns.All = refl
      through_nothing need (columns.These ns) = refl

  in_order : AreListed from to table.batches 0 numbers
  in_order =
      listed_of from to table.batches (λ i. has_row_in from to table.batches i && batch_can parts 0 some table i)
      (λ i h. (and_parts (has_row_in from to table.batches i) (batch_can parts 0 some table i) h).0) 0 (length table.batches) (omega arith)

  abbrev firsts : List (ℕ × ℕ)
  firsts = map (λ number. (0, number)) numbers

  -- the new plan over the batches that are opened
  abbrev pub narrow_bound : BoundAt
  narrow_bound = record { tables = narrowed numbers table ∷ others; plan = new.plan; output = new.output; schema = new.schema }

  rows_law : (columns_out : Columns) → old.output ≡ Project columns_out →
      map (renumbered firsts) (flat_map (λ (part : ℕ × List Row). map (λ row. (Some part.0, row)) (give_new part.1)) (numbered_parts a b (batches_at numbers table.batches)))
      ≡ flat_map (λ (part : ℕ × List Row). map (λ row. (Some part.0, row)) (give part.1)) (numbered_parts from to table.batches)
  rows_law columns_out e =
      renumber_parts firsts give_new (numbered_parts a b (batches_at numbers table.batches))
      ∙ narrow_from from to table.batches make_new 0 0 a b (table_number firsts) numbers (λ j h. name numbers j) in_order refl refl
      ∙ made_same numbers
      ∙ sym (whole_made from to table.batches make (λ i. has_row_in from to table.batches i && batch_can parts 0 some table i) (make_none columns_out e))
    where
      name : (ns : List ℕ) (j : ℕ) → table_number (map (λ number. (0, number)) ns) (0 + j) ≡ get_or ns j 0
      name ns j = let e : 0 + j ≡ j = omega arith in ap (table_number (map (λ number. (0, number)) ns)) e ∙ each ns j
        where
          each : (ns : List ℕ) (j : ℕ) → table_number (map (λ number. (0, number)) ns) j ≡ get_or ns j 0
          each [] zero = refl
          each [] (suc j) = refl
          each (n ∷ ns) zero = refl
          each (n ∷ ns) (suc j) = each ns j

      renumber_rows : (front : List (ℕ × ℕ)) (i : ℕ) (rows : List Row) →
          map (renumbered front) (map (λ row. (Some i, row)) rows) ≡ map (λ row. (Some (table_number front i), row)) rows
      renumber_rows front i [] = refl
      renumber_rows front i (row ∷ rows) = ap (λ (rest : List (Option ℕ × Row)). (Some (table_number front i), row) ∷ rest) (renumber_rows front i rows)

      renumber_parts : (front : List (ℕ × ℕ)) (made : List Row → List Row) (lists : List (ℕ × List Row)) →
          map (renumbered front) (flat_map (λ (part : ℕ × List Row). map (λ row. (Some part.0, row)) (made part.1)) lists)
          ≡ flat_map (λ (part : ℕ × List Row). map (λ row. (Some (table_number front part.0), row)) (made part.1)) lists
      renumber_parts front made [] = refl
      renumber_parts front made (part ∷ lists) =
          map-append (renumbered front) (map (λ row. (Some part.0, row)) (made part.1)) (flat_map (λ (one : ℕ × List Row). map (λ row. (Some one.0, row)) (made one.1)) lists)
          ∙ ap (λ (rest : List (Option ℕ × Row)). map (renumbered front) (map (λ row. (Some part.0, row)) (made part.1)) ++ rest) (renumber_parts front made lists)
          ∙ ap (λ (rows : List (Option ℕ × Row)). rows ++ flat_map (λ (one : ℕ × List Row). map (λ row. (Some (table_number front one.0), row)) (made one.1)) lists) (renumber_rows front part.0 (made part.1))

  abbrev given_with : Bool → List TableAt → (List Row → List Row) → ℕ → ℕ → List (Option ℕ × Row)
  given_with grouped all made first last =
      if grouped
      then map (λ row. (None, row)) (made (rows_between first last (flat_map rows_of (first_batches all))))
      else flat_map (λ part. map (λ row. (Some part.0, row)) (made part.1)) (numbered_parts first last (first_batches all))

  pub given_law : map (renumbered firsts) (given_of narrow_bound a b) ≡ given_of old from to
  given_law = by old.output refl
    where
      none_renumbered : (front : List (ℕ × ℕ)) (rows : List Row) → map (renumbered front) (map (λ row. (None, row)) rows) ≡ map (λ row. (None, row)) rows
      none_renumbered front [] = refl
      none_renumbered front (row ∷ rows) = ap (λ (rest : List (Option ℕ × Row)). (None, row) ∷ rest) (none_renumbered front rows)

      whole : given_with (is_grouping old.output) (table ∷ tables) give from to ≡ given_of old from to
      whole = sym (ap (λ (all : List TableAt). given_with (is_grouping old.output) all (λ rows. output_rows old.output (rows_over tree (rows ∷ further_rows all))) from to) old_tables)

      by : (o : Output) → old.output ≡ o → map (renumbered firsts) (given_of narrow_bound a b) ≡ given_of old from to
      by (Project columns_out) e =
          let plain : is_grouping old.output ≡ false = ap is_grouping e in
          ap (λ (g : Bool). map (renumbered firsts) (given_with g (narrowed numbers table ∷ others) give_new a b)) (same.grouping ∙ plain)
          ∙ rows_law columns_out e
          ∙ sym (ap (λ (g : Bool). given_with g (table ∷ tables) give from to) plain)
          ∙ whole
      by (Groups keys items) e =
          let grouped : is_grouping old.output ≡ true = ap is_grouping e in
          ap (λ (g : Bool). map (renumbered firsts) (given_with g (narrowed numbers table ∷ others) give_new a b)) (same.grouping ∙ grouped)
          ∙ none_renumbered firsts (give_new (rows_between a b (table_of (narrowed numbers table)).rows))
          ∙ ap (map (λ row. (None, row))) groups_same
          ∙ sym (ap (λ (g : Bool). given_with g (table ∷ tables) give from to) grouped)
          ∙ whole

  -- each batch that is opened has a row in the range
  pub batches_law : batches_in a b (batches_at numbers table.batches) ≡ range_with_len 0 (length firsts)
  batches_law =
      all_in from to table.batches numbers in_order filled ∙ ap (range_with_len 0) (sym (length-map numbers (λ (number : ℕ). (0, number))))
    where
      filled : (i : ℕ) → i < length numbers → rows_before (batches_at numbers table.batches) i < rows_before (batches_at numbers table.batches) (i + 1)
      filled i h =
          let many = at_many table.batches numbers (listed_within from to table.batches 0 numbers in_order) in
          let one = there_at (batches_at numbers table.batches) i (omega (arith, h, many)) in
          let next = before_next from to (batches_at numbers table.batches) i one.0 one.1 in
          let rows = ltb-true 0 (one.0).rows (one_of (λ (batch : BatchAt). has_rows batch ≡ true) (batches_at numbers table.batches)
          (all_at (λ (batch : BatchAt). has_rows batch ≡ true) table.batches (filled_each table.batches here.filled) numbers) i one.0 one.1) in
          omega (arith, next, rows)

  -- each of them has a row in the range
  pub each_law : batches_in a b (batches_at numbers table.batches) ≡ range_with_len 0 (length (batches_at numbers table.batches))
  each_law =
      let many = at_many table.batches numbers (listed_within from to table.batches 0 numbers in_order) in
      batches_law ∙ ap (range_with_len 0) (length-map numbers (λ (number : ℕ). (0, number)) ∙ sym many)

  pub begins_law : BeginsInFirst a (batches_at numbers table.batches)
  begins_law = begins_in_first from to table.batches 0 numbers in_order
