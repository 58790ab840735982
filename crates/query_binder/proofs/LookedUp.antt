-- The fault of a place, by what is looked up.
use Rattle.std.proofs.Common.{◌≡◌, true, false, not, is_some, List, [], ◌∷◌, ◌++◌, map, Option, Some, None, refl, sym, ap, ◌∙◌}
use Rattle.std.specs.List.{list_any}
use Rattle.std.specs.Str.{bytes_eq}
use Rattle.scan_base.specs.declared.fault.Fault.{Fault}
use Rattle.scan_base.specs.declared.fault.Fault.TheVariants.{NotInSubset, TableMissing, UnknownName}
use Rattle.sql_query.specs.declared.query.Place.{Place}
use Rattle.sql_query.specs.Sentence.{Sentence, place_name, is_left_out_whole}
use Rattle.table_versions.specs.Database.{Database, table_at}
use Rattle.table_versions.specs.StoredTables.{CatalogAt, TableAt, plain, tables_of}
use Rattle.table_versions.specs.Table.{Name, Table}
use Rattle.table_versions.proofs.Stores.{table_at-tables_of}
use Rattle.query_binder.specs.NameRules.{place_fault, places_fault, joins_fault, select_fault, fault_of, glance_of}
use Rattle.typed_plan.specs.Faults.{◌then◌, must, first_in, fault_in}
use Rattle.query_binder.specs.NameClasses.{filter_fault}
use Rattle.typed_plan.specs.JoinedRows.{place_columns, scope_of}
use Rattle.query_binder.specs.PlaceTables.{names_of}
use Rattle.typed_plan.specs.Scope.{column_of}

looked_up : (catalog : CatalogAt) (names : List Name) (place : Place) (there : Option TableAt) →
    table_at catalog place.table ≡ there →
    place_fault (tables_of catalog) names place
    ≡ (must (is_some (plain there)) TableMissing
    then must (not (list_any (bytes_eq (place_name place)) names)) UnknownName)
looked_up catalog names place there e =
    ap (λ (table : Option Table). must (is_some table) TableMissing
    then must (not (list_any (bytes_eq (place_name place)) names)) UnknownName)
    (table_at-tables_of catalog place.table ∙ ap plain e)

pub absent : (catalog : CatalogAt) (names : List Name) (place : Place) → table_at catalog place.table ≡ None →
    place_fault (tables_of catalog) names place ≡ Some TableMissing
absent catalog names place e = looked_up catalog names place None e

pub taken : (catalog : CatalogAt) (names : List Name) (place : Place) (table : TableAt) →
    table_at catalog place.table ≡ Some table → list_any (bytes_eq (place_name place)) names ≡ true →
    place_fault (tables_of catalog) names place ≡ Some UnknownName
taken catalog names place table e known =
    looked_up catalog names place (Some table) e ∙ ap (λ b. must (not b) UnknownName) known

pub free : (catalog : CatalogAt) (names : List Name) (place : Place) (table : TableAt) →
    table_at catalog place.table ≡ Some table → list_any (bytes_eq (place_name place)) names ≡ false →
    place_fault (tables_of catalog) names place ≡ None
free catalog names place table e unknown =
    looked_up catalog names place (Some table) e ∙ ap (λ b. must (not b) UnknownName) unknown

-- the first table alone
pub one_table : (there : Option TableAt) (first shared : TableAt) (fresh pushed : List TableAt) → there ≡ Some first →
    shared ≡ first → fresh ≡ [] → pushed ≡ fresh ++ shared ∷ [] →
    there ∷ [] ≡ map (λ (table : TableAt). Some table) pushed
one_table there first shared fresh pushed is same new_list grown =
    ap (λ t. t ∷ []) (is ∙ ap (λ (t : TableAt). Some t) (sym same))
    ∙ ap (map (λ (table : TableAt). Some table)) (sym (grown ∙ ap (λ front. front ++ shared ∷ []) new_list))

-- where the first table is there, a query shows what is said of its further places
pub glance_is : (query : Sentence) (catalog : CatalogAt) (first : TableAt) → is_left_out_whole query ≡ false →
    table_at catalog query.first.table ≡ Some first →
    glance_of query (tables_of catalog)
    ≡ places_fault (tables_of catalog) (names_of query.first []) (map (λ join. join.place) query.joins)
glance_is query catalog first going there = rw (going, free catalog [] query.first first there refl) refl

-- what is found first of two checks is found first of three
first_of_three : (one two three : Option Fault) (fault : Fault) → (one then two) ≡ Some fault → (one then two then three) ≡ Some fault
first_of_three (Some cause) two three fault e = e
first_of_three None two three fault e = ap (λ first. first then three) e

-- why a query is refused that shows it
pub glance_refuses : (query : Sentence) (database : Database) (fault : Fault) → glance_of query database ≡ Some fault →
    fault_of query database ≡ Some fault
glance_refuses query database fault e =
    let scope = scope_of query database in
    first_of_three (must (not (is_left_out_whole query)) NotInSubset)
    (places_fault database [] (query.first ∷ map (λ join. join.place) query.joins))
    (joins_fault database (place_columns database query.first) query.joins
    then filter_fault scope query.filter
    then first_in (λ name. fault_in (column_of scope name)) query.group_by
    then select_fault query scope query.select)
    fault e
