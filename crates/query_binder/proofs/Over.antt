-- FROM over the tables of its places is FROM at a catalog that has them.
use Rattle.std.proofs.Common.{◌≡◌, ◌≤◌, ◌-◌, false, not, List, [], ◌∷◌, ◌++◌, length, map, take, drop, get_or, Option, Some, None}
use Rattle.std.proofs.Common.{ℕ, arith, refl, sym, ap, subst, ◌∙◌, append-nil, append_assoc}
use Rattle.scan_base.specs.Predicate.{Pred}
use Rattle.typed_plan.specs.HeldTables.{tree_schemas}
use Rattle.std.proofs.lemmas.List.{take_all}
use Rattle.scan_base.specs.declared.fault.Fault.TheVariants.{NotInSubset}
use Rattle.sql_query.specs.declared.query.Join.{Join}
use Rattle.sql_query.specs.declared.query.Place.{Place}
use Rattle.sql_query.specs.Sentence.{Sentence, place_name, is_left_out_whole}
use Rattle.table_versions.specs.Database.{table_at}
use Rattle.table_versions.specs.StoredTables.{CatalogAt, TableAt, plain, table_of, tables_of}
use Rattle.table_versions.specs.Table.{Table}
use Rattle.table_versions.proofs.Stores.{table_at-tables_of}
use Rattle.typed_plan.specs.declared.plan.Columns.TheVariants.{All}
use Rattle.query_binder.specs.NameRules.{equality_fault, joins_fault, places_fault, rules_fault, fault_of}
use Rattle.typed_plan.specs.Faults.{◌then◌, must, first_in}
use Rattle.typed_plan.specs.JoinedRows.{fields_in, place_columns, scope_after}
use Rattle.query_binder.specs.PlaceTables.{AreTablesOf, places_of, columns_over, scan_over, joins_fault_over, scope_over, joined_over}
use Rattle.query_binder.specs.PlaceTables.{tree_over, all_over, rest_fault, parts_fault, plan_over}
use Rattle.typed_plan.specs.Plan.{Tree, scan, joined, PlanAt}
use Rattle.query_binder.specs.PlannedTree.{schema_in, place_tree, keys_of, joins_tree, where_kept, numbered_filter, output_for, plan_for}
use Rattle.query_binder.specs.ResultSchema.{select_fields}
use Rattle.typed_plan.specs.Scope.{Scope, columns_in}

-- a list of which the first element is known
pub split : {A : Type 0} (xs : List A) (x : A) → 1 ≤ length xs → x ≡ get_or xs 0 x →
    xs ≡ x ∷ take (length xs - 1) (drop 1 xs)
split [] x some is = absurd (omega (arith, some))
split (y ∷ ys) x some is =
    ap (λ z. z ∷ ys) (sym is) ∙ ap (λ zs. x ∷ zs) (sym (take_all (length (y ∷ ys) - 1) ys (omega arith)))

-- a place
there : (catalog : CatalogAt) (place : Place) (table : TableAt) → table_at catalog place.table ≡ Some table →
    table_at (tables_of catalog) place.table ≡ Some (table_of table)
there catalog place table e = table_at-tables_of catalog place.table ∙ ap plain e

columns_same : (catalog : CatalogAt) (place : Place) (table : TableAt) → table_at catalog place.table ≡ Some table →
    place_columns (tables_of catalog) place ≡ columns_over place table
columns_same catalog place table e =
    ap (λ (found : Option Table). columns_in (place_name place) (fields_in found)) (there catalog place table e)

tree_same : (catalog : CatalogAt) (place : Place) (table : TableAt) → table_at catalog place.table ≡ Some table →
    place_tree (tables_of catalog) place ≡ scan_over place table
tree_same catalog place table e =
    ap (λ (found : Option Table). scan place.table (schema_in found) All) (there catalog place table e)

-- the joins
faults_same : (catalog : CatalogAt) (scope : Scope) (joins : List Join) (tables : List TableAt) →
    AreTablesOf catalog (map (λ join. join.place) joins) tables →
    joins_fault (tables_of catalog) scope joins ≡ joins_fault_over scope joins tables
faults_same catalog scope [] tables are = refl
faults_same catalog scope (join ∷ joins) [] are = cc
faults_same catalog scope (join ∷ joins) (table ∷ tables) are =
    let head : table_at catalog join.place.table ≡ Some table = cc in
    let tail : AreTablesOf catalog (map (λ other. other.place) joins) tables = cc in
    let wide = scope ++ columns_over join.place table in
    ap (λ columns. first_in (equality_fault (length scope) (scope ++ columns)) join.on
    then joins_fault (tables_of catalog) (scope ++ columns) joins) (columns_same catalog join.place table head)
    ∙ ap (λ rest. first_in (equality_fault (length scope) wide) join.on then rest)
    (faults_same catalog wide joins tables tail)

scope_same : (catalog : CatalogAt) (scope : Scope) (joins : List Join) (tables : List TableAt) →
    AreTablesOf catalog (map (λ join. join.place) joins) tables →
    scope_after (tables_of catalog) scope joins ≡ scope_over scope joins tables
scope_same catalog scope [] tables are = refl
scope_same catalog scope (join ∷ joins) [] are = cc
scope_same catalog scope (join ∷ joins) (table ∷ tables) are =
    let head : table_at catalog join.place.table ≡ Some table = cc in
    let tail : AreTablesOf catalog (map (λ other. other.place) joins) tables = cc in
    ap (λ columns. scope_after (tables_of catalog) (scope ++ columns) joins) (columns_same catalog join.place table head)
    ∙ scope_same catalog (scope ++ columns_over join.place table) joins tables tail

joins_same : (catalog : CatalogAt) (scope : Scope) (tree : Tree) (joins : List Join) (tables : List TableAt) →
    AreTablesOf catalog (map (λ join. join.place) joins) tables →
    joins_tree (tables_of catalog) scope tree joins ≡ tree_over scope tree joins tables
joins_same catalog scope tree [] tables are = refl
joins_same catalog scope tree (join ∷ joins) [] are = cc
joins_same catalog scope tree (join ∷ joins) (table ∷ tables) are =
    let head : table_at catalog join.place.table ≡ Some table = cc in
    let tail : AreTablesOf catalog (map (λ other. other.place) joins) tables = cc in
    let database = tables_of catalog in
    let wide = scope ++ columns_over join.place table in
    ap (λ columns. joins_tree database (scope ++ columns)
    (joined tree (place_tree database join.place) (keys_of (length scope) (scope ++ columns) join.on)) joins)
    (columns_same catalog join.place table head)
    ∙ ap (λ right. joins_tree database wide (joined tree right (keys_of (length scope) wide join.on)) joins)
    (tree_same catalog join.place table head)
    ∙ joins_same catalog wide (joined_over scope tree join table) joins tables tail

-- the tables after the first
pub others_are : (catalog : CatalogAt) (first : Place) (joins : List Join) (tables : List TableAt) →
    AreTablesOf catalog (places_of first joins) tables →
    AreTablesOf catalog (map (λ join. join.place) joins) (take (length tables - 1) (drop 1 tables))
others_are catalog first joins [] are = cc
others_are catalog first joins (table ∷ tables) are =
    let tail : AreTablesOf catalog (map (λ join. join.place) joins) tables = cc in
    subst (AreTablesOf catalog (map (λ join. join.place) joins))
    (sym (take_all (length (table ∷ tables) - 1) tables (omega arith))) tail

-- what is found after the places is what is found
pub fault_is : (query : Sentence) (catalog : CatalogAt) (first : TableAt) (others : List TableAt) →
    is_left_out_whole query ≡ false → table_at catalog query.first.table ≡ Some first →
    AreTablesOf catalog (map (λ join. join.place) query.joins) others →
    places_fault (tables_of catalog) [] (places_of query.first query.joins) ≡ None →
    fault_of query (tables_of catalog) ≡ parts_fault query first others
fault_is query catalog first others kept head tail none =
    let database = tables_of catalog in
    let columns = columns_over query.first first in
    let rest = λ (start : Scope). rest_fault query (scope_after database start query.joins) in
    ap (λ b. must (not b) NotInSubset then rules_fault query database) kept
    ∙ ap (λ fault. fault then joins_fault database (place_columns database query.first) query.joins
    then rest (place_columns database query.first)) none
    ∙ ap (λ start. joins_fault database start query.joins then rest start) (columns_same catalog query.first first head)
    ∙ ap (λ fault. fault then rest columns) (faults_same catalog columns query.joins others tail)
    ∙ ap (λ scope. joins_fault_over columns query.joins others then rest_fault query scope)
    (scope_same catalog columns query.joins others tail)

-- the plan over the tables is the plan
abbrev plan_of_parts : Sentence → Scope → Tree → PlanAt
plan_of_parts query scope tree =
    record {
      tree = where_kept (numbered_filter scope query.filter) tree;
      output = output_for query scope;
      schema = record { fields = select_fields scope query.select };
    }

pub plan_is : (query : Sentence) (catalog : CatalogAt) (first : TableAt) (others : List TableAt) →
    table_at catalog query.first.table ≡ Some first →
    AreTablesOf catalog (map (λ join. join.place) query.joins) others →
    plan_for query (tables_of catalog) ≡ plan_over query first others
plan_is query catalog first others head tail =
    let database = tables_of catalog in
    let columns = columns_over query.first first in
    let plan = plan_of_parts query in
    ap (λ start. plan (scope_after database start query.joins)
    (joins_tree database start (place_tree database query.first) query.joins)) (columns_same catalog query.first first head)
    ∙ ap (λ tree. plan (scope_after database columns query.joins) (joins_tree database columns tree query.joins))
    (tree_same catalog query.first first head)
    ∙ ap (λ scope. plan scope (joins_tree database columns (scan_over query.first first) query.joins))
    (scope_same catalog columns query.joins others tail)
    ∙ ap (λ tree. plan (all_over query first others) tree)
    (joins_same catalog columns (scan_over query.first first) query.joins others tail)

-- what is bound over the tables is bound
pub bound_over : (query : Sentence) (catalog : CatalogAt) (first : TableAt) (others : List TableAt) (plan : PlanAt) →
    is_left_out_whole query ≡ false → table_at catalog query.first.table ≡ Some first →
    AreTablesOf catalog (map (λ join. join.place) query.joins) others →
    places_fault (tables_of catalog) [] (places_of query.first query.joins) ≡ None →
    parts_fault query first others ≡ None → plan ≡ plan_over query first others →
    (fault_of query (tables_of catalog) ≡ None) × (plan ≡ plan_for query (tables_of catalog))
bound_over query catalog first others plan kept head tail none clean is = (
  fault_is query catalog first others kept head tail none ∙ clean,
  is ∙ sym (plan_is query catalog first others head tail),
)

-- the columns that the tree says its tables have
joins_schemas : (catalog : CatalogAt) (scope : Scope) (tree : Tree) (joins : List Join) (tables : List TableAt) →
    AreTablesOf catalog (map (λ join. join.place) joins) tables →
    tree_schemas (tree_over scope tree joins tables) ≡ tree_schemas tree ++ map (λ (table : TableAt). table.schema) tables
joins_schemas catalog scope tree [] [] are = sym (append-nil (tree_schemas tree))
joins_schemas catalog scope tree [] (table ∷ tables) are = cc
joins_schemas catalog scope tree (join ∷ joins) [] are = cc
joins_schemas catalog scope tree (join ∷ joins) (table ∷ tables) are =
    let tail : AreTablesOf catalog (map (λ other. other.place) joins) tables = cc in
    joins_schemas catalog (scope ++ columns_over join.place table) (joined_over scope tree join table) joins tables tail
    ∙ append_assoc (tree_schemas tree) (table.schema ∷ []) (map (λ (other : TableAt). other.schema) tables)

where_schemas : (filter : Option (Pred ℕ)) (tree : Tree) → tree_schemas (where_kept filter tree) ≡ tree_schemas tree
where_schemas None tree = refl
where_schemas (Some predicate) tree = refl

pub schemas_are : (query : Sentence) (catalog : CatalogAt) (first : TableAt) (tables : List TableAt) →
    table_at catalog query.first.table ≡ Some first → AreTablesOf catalog (places_of query.first query.joins) tables →
    tree_schemas (plan_over query first (take (length tables - 1) (drop 1 tables))).tree
    ≡ map (λ (table : TableAt). table.schema) tables
schemas_are query catalog first [] head are = cc
schemas_are query catalog first (table ∷ tables) head are =
    let all : List TableAt = table ∷ tables in
    let others = take (length all - 1) (drop 1 all) in
    let same : others ≡ tables = take_all (length all - 1) tables (omega arith) in
    let tail = others_are catalog query.first query.joins all are in
    let one : table ≡ first = cc in
    where_schemas (numbered_filter (all_over query first others) query.filter)
    (tree_over (columns_over query.first first) (scan_over query.first first) query.joins others)
    ∙ joins_schemas catalog (columns_over query.first first) (scan_over query.first first) query.joins others tail
    ∙ ap (λ (t : TableAt). t.schema ∷ map (λ (other : TableAt). other.schema) others) (sym one)
    ∙ ap (λ those. table.schema ∷ map (λ (other : TableAt). other.schema) those) same

-- the tables of the names that a plan reads
pub names_hold : (catalog : CatalogAt) (joins : List Join) →
    map (table_at catalog) (map (λ join. join.place.table) joins)
    ≡ map (λ place. table_at catalog place.table) (map (λ join. join.place) joins)
names_hold catalog [] = refl
names_hold catalog (join ∷ joins) = ap (λ rest. table_at catalog join.place.table ∷ rest) (names_hold catalog joins)
