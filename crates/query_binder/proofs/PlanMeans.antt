-- The plan that the parts of a query name means the query, and reads the tables of its places.
use Rattle.std.proofs.Common.{◌≡◌, ℕ, Bool, true, false, not, List, [], ◌∷◌, ◌++◌, length, map, is_some, Option, Some, None}
use Rattle.std.proofs.Common.{refl, ap, ◌∙◌, append_assoc, append-nil, sym}
use Rattle.std.specs.List.{AllByRecursion, list_any}
use Rattle.std.specs.Str.{bytes_eq}
use Rattle.scan_base.specs.declared.fault.Fault.TheVariants.{TableMissing, UnknownName, NotInSubset}
use Rattle.scan_base.specs.Predicate.{Pred}
use Rattle.sql_query.specs.declared.query.Join.{Join}
use Rattle.sql_query.specs.declared.query.Place.{Place}
use Rattle.sql_query.specs.Sentence.{Sentence, place_name, is_left_out_whole}
use Rattle.table_versions.specs.Table.{Name, Table}
use Rattle.table_versions.specs.Database.{Database, table_at, columns_of}
use Rattle.typed_plan.specs.Scope.{Scope, column_of}
use Rattle.typed_plan.specs.JoinedRows.{place_columns, scope_of, kept_rows}
use Rattle.typed_plan.specs.Faults.{◌then◌, must, first_in, fault_in}
use Rattle.query_binder.specs.NameClasses.{filter_fault}
use Rattle.query_binder.specs.NameRules.{place_fault, places_fault, joins_fault, select_fault, rules_fault, fault_of}
use Rattle.typed_plan.specs.Plan.{Tree, joined as both, output_rows}
use Rattle.query_binder.specs.PlannedTree.{schema_in, place_tree, keys_of, joins_tree, from_tree, numbered_filter, where_kept}
use Rattle.query_binder.specs.PlannedTree.{output_for, plan_for}
use Rattle.typed_plan.specs.HeldTables.{tree_tables}
use Rattle.typed_plan.specs.TypedPlans.{IsOver}
use Rattle.query_binder.specs.Binding.{IsPlanOf}
use Rattle.typed_plan.proofs.TypedNames.{then_none}
use Rattle.query_binder.proofs.PlannedRows.{rows_are}
use Rattle.query_binder.proofs.PlannedGroups.{output_is}

-- ---- a query without a fault

-- what the rules found no fault in
pub record IsSound (query : Sentence) (database : Database) : Type 0 where
  pub places : places_fault database [] (query.first ∷ map (λ join. join.place) query.joins) ≡ None
  pub joins : joins_fault database (place_columns database query.first) query.joins ≡ None
  pub filter : filter_fault (scope_of query database) query.filter ≡ None
  pub group_by : first_in (λ name. fault_in (column_of (scope_of query database) name)) query.group_by ≡ None
  pub select : select_fault query (scope_of query database) query.select ≡ None

pub sound : (query : Sentence) (database : Database) → fault_of query database ≡ None → IsSound query database
sound query database e =
    let scope = scope_of query database in
    let places = places_fault database [] (query.first ∷ map (λ join. join.place) query.joins) in
    let joins = joins_fault database (place_columns database query.first) query.joins in
    let filtering = filter_fault scope query.filter in
    let grouping = first_in (λ name. fault_in (column_of scope name)) query.group_by in
    let selecting = select_fault query scope query.select in
    let rules = then_none (must (not (is_left_out_whole query)) NotInSubset) (rules_fault query database) e in
    let first = then_none places (joins then filtering then grouping then selecting) rules.1 in
    let second = then_none joins (filtering then grouping then selecting) first.1 in
    let third = then_none filtering (grouping then selecting) second.1 in
    let fourth = then_none grouping selecting third.1 in
    record { places = first.0; joins = second.0; filter = third.0; group_by = fourth.0; select = fourth.1 }

-- a place's table is there
abbrev pub IsThere : Database → Place → Type 0
IsThere database place = is_some (table_at database place.table) ≡ true

pub are_there : (database : Database) (earlier : List Name) (places : List Place) →
    places_fault database earlier places ≡ None → AllByRecursion (IsThere database) places
are_there database earlier [] e = tt
are_there database earlier (place ∷ places) e =
    let parts = then_none (place_fault database earlier place)
    (places_fault database (earlier ++ place_name place ∷ []) places) e in
    let own = then_none (must (is_some (table_at database place.table)) TableMissing)
    (must (not (list_any (bytes_eq (place_name place)) earlier)) UnknownName) parts.0 in (
      there (is_some (table_at database place.table)) own.0,
      are_there database (earlier ++ place_name place ∷ []) places parts.1,
    )
  where
    there : (is_there : Bool) → must is_there TableMissing ≡ None → is_there ≡ true
    there true f = refl
    there false f = cc

-- ---- the tables are there, with their columns

place_over : (database : Database) (place : Place) → IsThere database place → IsOver (place_tree database place) database
place_over database place is = at (table_at database place.table) is
  where
    at : (there : Option Table) → is_some there ≡ true → columns_of there ≡ Some (schema_in there)
    at None e = cc
    at (Some table) e = refl

joins_over : (database : Database) (scope : Scope) (tree : Tree) (joins : List Join) → IsOver tree database →
    AllByRecursion (IsThere database) (map (λ join. join.place) joins) →
    IsOver (joins_tree database scope tree joins) database
joins_over database scope tree [] over all = over
joins_over database scope tree (join ∷ joins) over all =
    let wider = scope ++ place_columns database join.place in
    joins_over database wider (both tree (place_tree database join.place) (keys_of (length scope) wider join.on)) joins
    (over, place_over database join.place all.0) all.1

where_over : (filtering : Option (Pred ℕ)) (tree : Tree) (database : Database) → IsOver tree database →
    IsOver (where_kept filtering tree) database
where_over None tree database over = over
where_over (Some predicate) tree database over = over

plan_over : (query : Sentence) (database : Database) → IsSound query database →
    IsOver (plan_for query database).tree database
plan_over query database is =
    let all = are_there database [] (query.first ∷ map (λ join. join.place) query.joins) is.places in
    where_over (numbered_filter (scope_of query database) query.filter) (from_tree query database) database
    (joins_over database (place_columns database query.first) (place_tree database query.first) query.joins
    (place_over database query.first all.0) all.1)

-- ---- the plan

-- a query without a fault is what its plan means
pub plan_means : (query : Sentence) (database : Database) → fault_of query database ≡ None →
    IsPlanOf query database (plan_for query database)
plan_means query database e =
    let is = sound query database e in
    let scope = scope_of query database in
    record {
      means =
          λ a b.
          ap (output_rows (output_for query scope)) (rows_are query database a b)
          ∙ output_is query scope (kept_rows query database a b) is.select;
      schema = refl;
      over = plan_over query database is;
    }

joins_read : (database : Database) (scope : Scope) (tree : Tree) (joins : List Join) →
    tree_tables (joins_tree database scope tree joins) ≡ tree_tables tree ++ map (λ join. join.place.table) joins
joins_read database scope tree [] = sym (append-nil (tree_tables tree))
joins_read database scope tree (join ∷ joins) =
    let wider = scope ++ place_columns database join.place in
    joins_read database wider (both tree (place_tree database join.place) (keys_of (length scope) wider join.on)) joins
    ∙ append_assoc (tree_tables tree) (join.place.table ∷ []) (map (λ join. join.place.table) joins)

where_read : (filtering : Option (Pred ℕ)) (tree : Tree) → tree_tables (where_kept filtering tree) ≡ tree_tables tree
where_read None tree = refl
where_read (Some predicate) tree = refl

-- the plan of a query reads the tables of its places
pub plan_reads : (query : Sentence) (database : Database) →
    tree_tables (plan_for query database).tree
    ≡ query.first.table ∷ map (λ join. join.place.table) query.joins
plan_reads query database =
    where_read (numbered_filter (scope_of query database) query.filter) (from_tree query database)
    ∙ joins_read database (place_columns database query.first) (place_tree database query.first) query.joins
