-- A scan over the batches that a plan opens.
use Rattle.std.proofs.Common.{◌≡◌, ◌≤◌, ℕ, true, All, List, [], ◌∷◌, ◌++◌, length, map, refl, sym, ap, ◌∙◌, subst, arith}
use Rattle.std.specs.List.{flat_map, range_with_len}
use Rattle.arrow_types.specs.declared.schema.Schema.{Schema}
use Rattle.arrays.specs.Batch.{rows_of}
use Rattle.scan_base.specs.Limits.{most_rows}
use Rattle.scan_base.specs.Predicate.{Pred}
use Rattle.table_versions.specs.KeptTables.{IsKept}
use Rattle.table_versions.specs.StoredTables.{TableAt, table_of}
use Rattle.typed_plan.specs.declared.plan.Columns.{Columns}
use Rattle.typed_plan.specs.HeldTables.{tree_schemas}
use Rattle.typed_plan.specs.Plan.{Tree, scan, filtered, joined}
use Rattle.typed_plan.specs.TypedPlans.{IsTypedTree, has_columns}
use Rattle.typed_plan.specs.View.{BoundAt, tree_of}
use Rattle.rewrite.specs.Laws.{SkippingKeepsRows}
use Rattle.batch_skipping.specs.declared.opened_batches.OpenedList.{OpenedList}
use Rattle.scan_exec.specs.Answering.{renumbered}
use Rattle.row_sources.specs.Parts.{first_batches}
use Rattle.scan_exec.specs.GivenRows.{given_of}
use Rattle.batch_skipping.specs.PlaceLists.{AreLists, AreWhole}
use Rattle.batch_skipping.specs.Narrow.{BeginsInFirst, batches_at, narrowed_from, narrowed_to}
use Rattle.batch_skipping.specs.OpenedBatches.{batches_in, first_numbers, given_width, first_opened, further_numbers, numbers_behind, opened_numbers, place_opened, scans_of, where_parts}
use Rattle.row_sources.specs.OpenedTables.{CanAll, narrow_all}
use Rattle.rewrite.specs.SameRows.{StandsFor}
use Rattle.scan_exec.proofs.NarrowLaw.{Fit, Holds, batches_law, begins_law, each_law, given_law, narrow_bound, schemas_of}
use Rattle.scan_exec.proofs.OpenedLists.{numbers_of}
use Rattle.scan_exec.proofs.PlaceByPlace.{as_many_scans}
use Rattle.scan_exec.proofs.Through.{IsDeep}

-- the tables are kept
abbrev pub AreKept : List TableAt → Type 0
AreKept tables = All (λ (table : TableAt). IsKept table (length (table_of table).rows)) tables

-- the columns that scans give are columns of these schemas
abbrev FitSchemas : List Columns → List Schema → Type 0
FitSchemas (some ∷ scans) (schema ∷ schemas) = (has_columns (length schema.fields) some ≡ true) × FitSchemas scans schemas
FitSchemas _ _ = Unit {0}

-- the right side of each join of a typed tree is a place
pub typed_deep : (tree : Tree) → IsTypedTree tree → IsDeep tree
typed_deep (scan table schema some) typed = tt
typed_deep (filtered predicate tree) typed = typed_deep tree typed.1
typed_deep (joined left right on) typed = (typed_deep left typed.0, typed.2)

-- a list of batches of each table
whole_can : (tables : List TableAt) (lists : List OpenedList) → AreWhole tables lists → CanAll tables lists
whole_can [] [] are = tt
whole_can [] (list ∷ lists) are = absurd are
whole_can (table ∷ tables) [] are = absurd are
whole_can (table ∷ tables) (list ∷ lists) are = (are.0.can, whole_can tables lists are.1)

pub lists_can : (from to : ℕ) (tables : List TableAt) (lists : List OpenedList) → AreLists from to tables lists → CanAll tables lists
lists_can from to [] lists are = absurd are
lists_can from to (table ∷ tables) [] are = absurd are
lists_can from to (table ∷ tables) (list ∷ lists) are = (are.0.can, whole_can tables lists are.1)

-- the columns are those of the tables
pub narrow_schemas : (tables : List TableAt) (lists : List OpenedList) → CanAll tables lists → schemas_of (narrow_all (numbers_of lists) tables) ≡ schemas_of tables
narrow_schemas [] [] can = refl
narrow_schemas [] (list ∷ lists) can = absurd can
narrow_schemas (table ∷ tables) [] can = absurd can
narrow_schemas (table ∷ tables) (list ∷ lists) can = ap (λ (rest : List Schema). table.schema ∷ rest) (narrow_schemas tables lists can.1)

-- the first list
abbrev pub first_list : List OpenedList → OpenedList → OpenedList
first_list [] list = list
first_list (list ∷ lists) other = list

-- ---- of a plan

-- a scan for each table
scans_some : (tree : Tree) → (some : Columns) × ((scans : List Columns) × (scans_of tree ≡ some ∷ scans))
scans_some (scan table schema some) = (some, ([], refl))
scans_some (filtered predicate tree) = scans_some tree
scans_some (joined left right on) =
    let one = scans_some left in
    (one.0, (one.1.0 ++ scans_of right, ap (λ (rest : List Columns). rest ++ scans_of right) one.1.1))

-- the columns that the scans of a typed tree give are there
fit_append : (xs ys : List Columns) (ss ts : List Schema) → length xs ≡ length ss → FitSchemas xs ss → FitSchemas ys ts → FitSchemas (xs ++ ys) (ss ++ ts)
fit_append [] ys [] ts same a b = b
fit_append [] ys (s ∷ ss) ts same a b = absurd (omega (arith, same))
fit_append (x ∷ xs) ys [] ts same a b = absurd (omega (arith, same))
fit_append (x ∷ xs) ys (s ∷ ss) ts same a b = (a.0, fit_append xs ys ss ts (omega (arith, same)) a.1 b)

tree_fit : (tree : Tree) → IsTypedTree tree → FitSchemas (scans_of tree) (tree_schemas tree)
tree_fit (scan table schema some) typed = (typed, tt)
tree_fit (filtered predicate tree) typed = tree_fit tree typed.1
tree_fit (joined left right on) typed =
    fit_append (scans_of left) (scans_of right) (tree_schemas left) (tree_schemas right) (as_many_scans left) (tree_fit left typed.0) (tree_fit right typed.1)

fit_tables : (scans : List Columns) (tables : List TableAt) → FitSchemas scans (schemas_of tables) → Fit scans tables
fit_tables [] tables a = tt
fit_tables (some ∷ scans) [] a = tt
fit_tables (some ∷ scans) (table ∷ tables) a = (a.0, fit_tables scans tables a.1)

pub typed_fit : (tree : Tree) (tables : List TableAt) → IsTypedTree tree → tree_schemas tree ≡ schemas_of tables → Fit (scans_of tree) tables
typed_fit tree tables typed e = fit_tables (scans_of tree) tables (subst (FitSchemas (scans_of tree)) e (tree_fit tree typed))

-- what is shown of a plan over some batches
pub record Laws (old : BoundAt) (from to : ℕ) (bound : BoundAt) (begin end : ℕ) : Type 0 where
  pub begins : BeginsInFirst begin (first_batches bound.tables)
  pub given : map (renumbered (first_opened from to old)) (given_of bound begin end) ≡ given_of old from to
  pub batches : batches_in begin end (first_batches bound.tables) ≡ range_with_len 0 (length (first_opened from to old))
  pub each : batches_in begin end (first_batches bound.tables) ≡ range_with_len 0 (length (first_batches bound.tables))
  pub few : length (flat_map rows_of (first_batches bound.tables)) ≤ most_rows

module _ (old new : BoundAt) (from to : ℕ) (lists : List OpenedList) (list : OpenedList)
    (typed : IsTypedTree (tree_of old.plan)) (schemas : tree_schemas (tree_of old.plan) ≡ schemas_of old.tables)
    (fit : Fit (scans_of (tree_of old.plan)) old.tables) (skipping : SkippingKeepsRows) (same : StandsFor new old) (holds : Holds (where_parts (tree_of old.plan)))
    (kept : AreKept old.tables) (numbers : numbers_of lists ≡ opened_numbers old from to) (are : AreLists from to old.tables lists) (first : first_list lists list ≡ list) where
  abbrev parts : List (Pred ℕ)
  parts = where_parts (tree_of old.plan)

  -- the new plan over these batches
  abbrev pub opened_bound : BoundAt
  opened_bound = record { tables = narrow_all (numbers_of lists) old.tables; plan = new.plan; output = new.output; schema = new.schema }

  pub laws : Laws old from to opened_bound list.from list.to
  laws = by old.tables refl lists refl (scans_some (tree_of old.plan))
    where
      by : (tables : List TableAt) → old.tables ≡ tables → (some_lists : List OpenedList) → lists ≡ some_lists →
          ((some : Columns) × ((scans : List Columns) × (scans_of (tree_of old.plan) ≡ some ∷ scans))) → Laws old from to opened_bound list.from list.to
      by [] e ls f found = absurd (subst (λ (ts : List TableAt). AreLists from to ts lists) e are)
      by (table ∷ tables) e [] f found = absurd (subst (λ (ts : List TableAt). AreLists from to ts []) e (subst (AreLists from to old.tables) f are))
      by (table ∷ tables) e (one ∷ ls) f found =
          let some = found.0 in
          let scans = found.1.0 in
          let here : AreLists from to (table ∷ tables) (one ∷ ls) =
          subst (λ (ts : List TableAt). AreLists from to ts (one ∷ ls)) e (subst (AreLists from to old.tables) f are) in
          let named : numbers_of (one ∷ ls) ≡ place_opened parts 0 some from to table ∷ numbers_behind parts (given_width some (length table.schema.fields)) scans tables =
          sym (ap numbers_of f) ∙ numbers
          ∙ ap (λ (cs : List Columns). first_numbers parts from to cs old.tables ∷ further_numbers parts cs old.tables) found.1.1
          ∙ ap (λ (ts : List TableAt). first_numbers parts from to (some ∷ scans) ts ∷ further_numbers parts (some ∷ scans) ts) e in
          let head : one.numbers.items ≡ place_opened parts 0 some from to table = cc in
          let same_list : one ≡ list = ap (λ (xs : List OpenedList). first_list xs list) (sym f) ∙ first in
          let opened : opened_bound ≡ narrow_bound old new from to some scans table tables skipping same (typed_deep (tree_of old.plan) typed) holds found.1.1
          (schemas ∙ ap schemas_of e) (fit_at found e) e (subst AreKept e kept) =
          ap (λ (ts : List TableAt). record { tables = ts; plan = new.plan; output = new.output; schema = new.schema })
          (ap (λ (ls_numbers : List (List ℕ)). narrow_all ls_numbers old.tables) (ap numbers_of f ∙ named) ∙ ap (narrow_all (place_opened parts 0 some from to table ∷ numbers_behind parts (given_width some (length table.schema.fields)) scans tables)) e) in
          let begin : list.from ≡ narrowed_from from table.batches (place_opened parts 0 some from to table) =
          sym (ap (λ (l : OpenedList). l.from) same_list) ∙ here.0.from ∙ ap (narrowed_from from table.batches) head in
          let end : list.to ≡ narrowed_to to table.batches (place_opened parts 0 some from to table) =
          sym (ap (λ (l : OpenedList). l.to) same_list) ∙ here.0.to ∙ ap (narrowed_to to table.batches) head in
          subst (λ (b : BoundAt). Laws old from to b list.from list.to) (sym opened)
          (subst (λ (n : ℕ). Laws old from to (narrow_bound old new from to some scans table tables skipping same (typed_deep (tree_of old.plan) typed) holds found.1.1
          (schemas ∙ ap schemas_of e) (fit_at found e) e (subst AreKept e kept)) n list.to) (sym begin)
          (subst (λ (n : ℕ). Laws old from to (narrow_bound old new from to some scans table tables skipping same (typed_deep (tree_of old.plan) typed) holds found.1.1
          (schemas ∙ ap schemas_of e) (fit_at found e) e (subst AreKept e kept)) (narrowed_from from table.batches (place_opened parts 0 some from to table)) n) (sym end)
          (record {
            begins = begins_law old new from to some scans table tables skipping same (typed_deep (tree_of old.plan) typed) holds found.1.1 (schemas ∙ ap schemas_of e) (fit_at found e) e (subst AreKept e kept);
            given = ap (λ (ts : List (ℕ × ℕ)). map (renumbered ts) (given_of (narrow_bound old new from to some scans table tables skipping same (typed_deep (tree_of old.plan) typed) holds found.1.1
                (schemas ∙ ap schemas_of e) (fit_at found e) e (subst AreKept e kept)) (narrowed_from from table.batches (place_opened parts 0 some from to table)) (narrowed_to to table.batches (place_opened parts 0 some from to table)))) (firsts found e)
                ∙ given_law old new from to some scans table tables skipping same (typed_deep (tree_of old.plan) typed) holds found.1.1 (schemas ∙ ap schemas_of e) (fit_at found e) e (subst AreKept e kept);
            batches = batches_law old new from to some scans table tables skipping same (typed_deep (tree_of old.plan) typed) holds found.1.1 (schemas ∙ ap schemas_of e) (fit_at found e) e (subst AreKept e kept)
                ∙ ap (λ (ts : List (ℕ × ℕ)). range_with_len 0 (length ts)) (sym (firsts found e));
            each = each_law old new from to some scans table tables skipping same (typed_deep (tree_of old.plan) typed) holds found.1.1 (schemas ∙ ap schemas_of e) (fit_at found e) e (subst AreKept e kept);
            few = subst (λ (ns : List ℕ). length (flat_map rows_of (batches_at ns table.batches)) ≤ most_rows) head
                (subst (λ (n : ℕ). n ≤ most_rows) here.0.can.counted here.0.can.few);
          })))
        where
          fit_at : (found : (some : Columns) × ((scans : List Columns) × (scans_of (tree_of old.plan) ≡ some ∷ scans))) → old.tables ≡ table ∷ tables → Fit (found.0 ∷ found.1.0) (table ∷ tables)
          fit_at found e = subst (Fit (found.0 ∷ found.1.0)) e (subst (λ (cs : List Columns). Fit cs old.tables) found.1.1 fit)

          firsts : (found : (some : Columns) × ((scans : List Columns) × (scans_of (tree_of old.plan) ≡ some ∷ scans))) → old.tables ≡ table ∷ tables →
              first_opened from to old ≡ map (λ number. (0, number)) (place_opened parts 0 found.0 from to table)
          firsts found e =
              ap (λ (cs : List Columns). map (λ number. (0, number)) (first_numbers parts from to cs old.tables)) found.1.1
              ∙ ap (λ (ts : List TableAt). map (λ number. (0, number)) (first_numbers parts from to (found.0 ∷ found.1.0) ts)) e
