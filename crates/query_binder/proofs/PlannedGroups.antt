-- What a query's plan takes of rows is what the query selects of them, of each row or of each group.
use Rattle.std.proofs.Common.{◌≡◌, ℕ, ◌+◌, ◌==◌, Bool, true, false, not, ◌||◌, if◌then◌else◌, List, [], ◌∷◌, ◌++◌, length}
use Rattle.std.proofs.Common.{map, None, Result, Ok, Err, refl, sym, ap, ◌∙◌, one-add}
use Rattle.std.specs.List.{AllByRecursion, list_any, fold}
use Rattle.std.proofs.lemmas.Bool.{or_parts, eqb-true, eq-eqb}
use Rattle.std.proofs.lemmas.List.{map-id}
use Rattle.std.proofs.lemmas.Simd.{map-map}
use Rattle.scan_base.specs.declared.fault.Fault.{Fault}
use Rattle.scan_base.specs.declared.fault.Fault.TheVariants.{NotInSubset}
use Rattle.scan_base.specs.declared.value.Value.{Value}
use Rattle.scan_base.specs.Predicate.{cell_in}
use Rattle.sql_query.specs.declared.query.ColumnName.{ColumnName}
use Rattle.sql_query.specs.declared.query.Expression.{Expression}
use Rattle.sql_query.specs.declared.query.Expression.TheVariants.{Column, CountRows, Count, Sum}
use Rattle.sql_query.specs.declared.query.Select.{Select}
use Rattle.sql_query.specs.declared.query.Select.TheVariants as select
use Rattle.sql_query.specs.declared.query.SelectItem.{SelectItem}
use Rattle.sql_query.specs.Sentence.{Sentence, is_aggregate, has_aggregate, is_grouped}
use Rattle.table_versions.specs.Table.{Row}
use Rattle.typed_plan.specs.declared.plan.Aggregate.TheVariants as aggregate
use Rattle.typed_plan.specs.declared.plan.Output.TheVariants.{Project, Groups}
use Rattle.typed_plan.specs.Scope.{Scope, column_of, numbered, number_in, named_cell}
use Rattle.typed_plan.specs.GroupedRows.{Group, same_key, with_row, groups_of}
use Rattle.typed_plan.specs.Meaning.{value_in_row, value_in_group, selected, group_values}
use Rattle.typed_plan.specs.Faults.{◌then◌, must, found, first_in}
use Rattle.query_binder.specs.NameRules.{may_select, expression_fault, width_fault, select_fault}
use Rattle.typed_plan.specs.Plan.{taken, answered, groups_by, output_rows}
use Rattle.query_binder.specs.PlannedTree.{number_of_item, chosen, key_place, aggregate_of, aggregates, output_for}
use Rattle.typed_plan.proofs.TypedNames.{then_none}

map_agree : {X Y : Type 0} (f g : X → Y) (xs : List X) → AllByRecursion (λ x. f x ≡ g x) xs → map f xs ≡ map g xs
map_agree f g [] same = refl
map_agree f g (x ∷ xs) same = ap (λ y. y ∷ map f xs) same.0 ∙ ap (λ ys. g x ∷ ys) (map_agree f g xs same.1)

all_of : {X : Type 0} (P : X → Type 0) → ((x : X) → P x) → (xs : List X) → AllByRecursion P xs
all_of P each [] = tt
all_of P each (x ∷ xs) = (each x, all_of P each xs)

all_mapped : {X : Type 0} (P Q : X → Type 0) → ((x : X) → P x → Q x) → (xs : List X) → AllByRecursion P xs →
    AllByRecursion Q xs
all_mapped P Q each [] all = tt
all_mapped P Q each (x ∷ xs) all = (each x all.0, all_mapped P Q each xs all.1)

-- ---- each row on its own

-- the cells of the items' columns are the values of the items
items_are : (scope : Scope) (row : Row) (items : List SelectItem) →
    list_any (λ item. is_aggregate item.expression) items ≡ false →
    map (cell_in row) (map (number_of_item scope) items) ≡ map (λ item. value_in_row scope row item.expression) items
items_are scope row [] e = refl
items_are scope row (item ∷ items) e =
    let parts = or_parts (is_aggregate item.expression) (list_any (λ item. is_aggregate item.expression) items) e in
    ap (λ values. cell_in row (number_of_item scope item) ∷ values) (items_are scope row items parts.1)
    ∙ ap (λ value. value ∷ map (λ item. value_in_row scope row item.expression) items) (one item.expression parts.0)
  where
    one : (expression : Expression) → is_aggregate expression ≡ false →
        cell_in row (number_of_item scope (record { expression = expression; alias = None }))
        ≡ value_in_row scope row expression
    one (Column name) e = refl
    one CountRows e = cc
    one (Count name) e = cc
    one (Sum name) e = cc

-- what is taken of the rows is what is selected of them
taken_are : (scope : Scope) (selecting : Select) (rows : List Row) → has_aggregate selecting ≡ false →
    taken (chosen scope selecting) rows ≡ map (selected scope selecting) rows
taken_are scope select.All rows e = sym (map-id rows)
taken_are scope (select.List items) rows e =
    map_agree (λ row. map (cell_in row) (map (number_of_item scope) items)) (selected scope (select.List items)) rows
    (all_of _ (λ row. items_are scope row items e) rows)

-- ---- groups

fold_agree : {A B : Type 0} (f g : B → A → B) → ((b : B) (a : A) → f b a ≡ g b a) → (start : B) (xs : List A) →
    fold f start xs ≡ fold g start xs
fold_agree f g same start [] = refl
fold_agree f g same start (x ∷ xs) = ap (λ next. fold f next xs) (same start x) ∙ fold_agree f g same (g start x) xs

-- groups by numbers of columns are groups by names
groups_are : (scope : Scope) (names : List ColumnName) (rows : List Row) →
    groups_by (map (numbered scope) names) rows ≡ groups_of scope names rows
groups_are scope [] rows = refl
groups_are scope (name ∷ names) rows =
    fold_agree (λ groups row. with_row (map (cell_in row) (map (numbered scope) (name ∷ names))) row groups)
    (λ groups row. with_row (map (named_cell scope row) (name ∷ names)) row groups)
    (λ groups row. ap (λ key. with_row key row groups) (map-map (cell_in row) (numbered scope) (name ∷ names)))
    [] rows

-- a group has a row, and its key is the first one's
abbrev IsOfFirst : (Row → List Value) → List Value → List Row → Type 0
IsOfFirst key_of_row key [] = ⊥
IsOfFirst key_of_row key (row ∷ rows) = key ≡ key_of_row row

abbrev HasFirst : (Row → List Value) → Group → Type 0
HasFirst key_of_row group = IsOfFirst key_of_row group.key group.rows

first_stays : (key_of_row : Row → List Value) (key : List Value) (rows more : List Row) → IsOfFirst key_of_row key rows →
    IsOfFirst key_of_row key (rows ++ more)
first_stays key_of_row key [] more first = absurd first
first_stays key_of_row key (row ∷ rows) more first = first

-- a further row leaves each group its first
with_row_first : (key_of_row : Row → List Value) (row : Row) (groups : List Group) →
    AllByRecursion (HasFirst key_of_row) groups →
    AllByRecursion (HasFirst key_of_row) (with_row (key_of_row row) row groups)
with_row_first key_of_row row [] all = (refl, tt)
with_row_first key_of_row row (group ∷ groups) all =
    joins (same_key group.key (key_of_row row)) (with_row_first key_of_row row groups all.1)
  where
    joins : (same : Bool) → AllByRecursion (HasFirst key_of_row) (with_row (key_of_row row) row groups) →
        AllByRecursion (HasFirst key_of_row)
        (if same then record group { rows = group.rows ++ row ∷ [] } ∷ groups
        else group ∷ with_row (key_of_row row) row groups)
    joins true later = (first_stays key_of_row group.key group.rows (row ∷ []) all.0, all.1)
    joins false later = (all.0, later)

fold_first : (key_of_row : Row → List Value) (rows : List Row) (groups : List Group) →
    AllByRecursion (HasFirst key_of_row) groups →
    AllByRecursion (HasFirst key_of_row) (fold (λ groups row. with_row (key_of_row row) row groups) groups rows)
fold_first key_of_row [] groups all = all
fold_first key_of_row (row ∷ rows) groups all =
    fold_first key_of_row rows (with_row (key_of_row row) row groups) (with_row_first key_of_row row groups all)

-- where there is GROUP BY, a group's key is the values of its first row
abbrev HasKeyOf : Scope → List ColumnName → Group → Type 0
HasKeyOf scope [] group = Unit {0}
HasKeyOf scope (name ∷ names) group = HasFirst (λ row. map (named_cell scope row) (name ∷ names)) group

groups_have : (scope : Scope) (names : List ColumnName) (rows : List Row) →
    AllByRecursion (HasKeyOf scope names) (groups_of scope names rows)
groups_have scope [] rows = (tt, tt)
groups_have scope (name ∷ names) rows = fold_first (λ row. map (named_cell scope row) (name ∷ names)) rows [] tt

-- ---- items of groups

-- a column that is none of the first name is one of the others
later_name : (scope : Scope) (number : ℕ) (name : ColumnName) (names : List ColumnName) →
    (numbered scope name == number) ≡ false → list_any (λ name. number == numbered scope name) (name ∷ names) ≡ true →
    list_any (λ name. number == numbered scope name) names ≡ true
later_name scope number name names other e = at (number == numbered scope name) refl
  where
    at : (here : Bool) → (number == numbered scope name) ≡ here →
        list_any (λ name. number == numbered scope name) names ≡ true
    at true is =
        let same = eq-eqb (numbered scope name) number (sym (eqb-true number (numbered scope name) is)) in cc
    at false is = ap (λ first. first || list_any (λ name. number == numbered scope name) names) (sym is) ∙ e

-- the value that stands at a column's place in the key is the row's
key_found : (scope : Scope) (row : Row) (number : ℕ) (names : List ColumnName) →
    list_any (λ name. number == numbered scope name) names ≡ true →
    cell_in (map (named_cell scope row) names) (key_place (map (numbered scope) names) number) ≡ cell_in row number
key_found scope row number [] e = cc
key_found scope row number (name ∷ names) e =
    at (numbered scope name == number) refl (λ later. key_found scope row number names later)
  where
    at : (here : Bool) → (numbered scope name == number) ≡ here →
        (list_any (λ name. number == numbered scope name) names ≡ true →
        cell_in (map (named_cell scope row) names) (key_place (map (numbered scope) names) number)
        ≡ cell_in row number) →
        cell_in (map (named_cell scope row) (name ∷ names))
        (if here then 0 else 1 + key_place (map (numbered scope) names) number) ≡ cell_in row number
    at true is later = ap (cell_in row) (eqb-true (numbered scope name) number is)
    at false is later =
        ap (cell_in (map (named_cell scope row) (name ∷ names))) (one-add (key_place (map (numbered scope) names) number))
        ∙ later (later_name scope number name names is e)

-- where the query is grouped, a column that may be selected is one of GROUP BY
column_is_key : (query : Sentence) (scope : Scope) (name : ColumnName) → is_grouped query ≡ true →
    expression_fault query scope (Column name) ≡ None →
    list_any (λ other. numbered scope name == numbered scope other) query.group_by ≡ true
column_is_key query scope name grouped e = named (column_of scope name) e
  where
    allowed : (one : Bool) → must (not (is_grouped query) || one) NotInSubset ≡ None → one ≡ true
    allowed true f = refl
    allowed false f =
        let refused = ap (λ grouped. must (not grouped || false) NotInSubset) (sym grouped) ∙ f in cc

    named : (meant : Result ℕ Fault) →
        found meant (λ number. must (may_select query scope number) NotInSubset) ≡ None →
        list_any (λ other. number_in meant == numbered scope other) query.group_by ≡ true
    named (Ok number) f = allowed (list_any (λ other. number == numbered scope other) query.group_by) f
    named (Err fault) f = cc

-- what an item gives of a group
item_is : (query : Sentence) (scope : Scope) (group : Group) (expression : Expression) → is_grouped query ≡ true →
    expression_fault query scope expression ≡ None → HasKeyOf scope query.group_by group →
    answered group (aggregate_of scope (map (numbered scope) query.group_by) expression)
    ≡ value_in_group scope group.rows expression
item_is query scope group (Column name) grouped e has =
    key query.group_by group.rows (column_is_key query scope name grouped e) has
  where
    key : (names : List ColumnName) (rows : List Row) →
        list_any (λ other. numbered scope name == numbered scope other) names ≡ true →
        HasKeyOf scope names (record { key = group.key; rows = rows }) →
        cell_in group.key (key_place (map (numbered scope) names) (numbered scope name))
        ≡ value_in_group scope rows (Column name)
    key [] rows one has = cc
    key (other ∷ names) [] one has = absurd has
    key (other ∷ names) (row ∷ rows) one has =
        ap (λ values. cell_in values (key_place (map (numbered scope) (other ∷ names)) (numbered scope name))) has
        ∙ key_found scope row (numbered scope name) (other ∷ names) one
item_is query scope group CountRows grouped e has = counted group.rows
  where
    counted : (rows : List Row) → answered (record { key = group.key; rows = rows }) aggregate.CountRows
        ≡ value_in_group scope rows CountRows
    counted [] = refl
    counted (row ∷ rows) = refl
item_is query scope group (Count name) grouped e has = counted group.rows
  where
    counted : (rows : List Row) →
        answered (record { key = group.key; rows = rows }) (aggregate.Count (numbered scope name))
        ≡ value_in_group scope rows (Count name)
    counted [] = refl
    counted (row ∷ rows) = refl
item_is query scope group (Sum name) grouped e has = added group.rows
  where
    added : (rows : List Row) →
        answered (record { key = group.key; rows = rows }) (aggregate.Sum (numbered scope name))
        ≡ value_in_group scope rows (Sum name)
    added [] = refl
    added (row ∷ rows) = refl

list_is : (query : Sentence) (scope : Scope) (group : Group) (items : List SelectItem) → is_grouped query ≡ true →
    first_in (λ item. expression_fault query scope item.expression) items ≡ None →
    HasKeyOf scope query.group_by group →
    map (answered group)
    (map (λ item. aggregate_of scope (map (numbered scope) query.group_by) item.expression) items)
    ≡ map (λ item. value_in_group scope group.rows item.expression) items
list_is query scope group [] grouped e has = refl
list_is query scope group (item ∷ items) grouped e has =
    let parts = then_none (expression_fault query scope item.expression)
    (first_in (λ item. expression_fault query scope item.expression) items) e in
    let here = item_is query scope group item.expression grouped parts.0 has in
    let later = list_is query scope group items grouped parts.1 has in
    cc

-- what is selected of a group
group_is : (query : Sentence) (scope : Scope) (selecting : Select) (group : Group) → is_grouped query ≡ true →
    select_fault query scope selecting ≡ None → HasKeyOf scope query.group_by group →
    map (answered group) (aggregates scope (map (numbered scope) query.group_by) selecting)
    ≡ group_values scope selecting group
group_is query scope select.All group grouped e has = refl
group_is query scope (select.List items) group grouped e has =
    list_is query scope group items grouped
    (then_none (first_in (λ item. expression_fault query scope item.expression) items) (width_fault (length items)) e).0
    has

-- ---- both

-- the output of a query's plan takes what the query selects
pub output_is : (query : Sentence) (scope : Scope) (rows : List Row) →
    select_fault query scope query.select ≡ None →
    output_rows (output_for query scope) rows
    ≡ (if is_grouped query then map (group_values scope query.select) (groups_of scope query.group_by rows)
    else map (selected scope query.select) rows)
output_is query scope rows e = at (is_grouped query) refl
  where
    at : (grouped : Bool) → is_grouped query ≡ grouped →
        output_rows
        (if grouped then Groups (map (numbered scope) query.group_by)
        (aggregates scope (map (numbered scope) query.group_by) query.select)
        else Project (chosen scope query.select)) rows
        ≡ (if grouped then map (group_values scope query.select) (groups_of scope query.group_by rows)
        else map (selected scope query.select) rows)
    at true is =
        let keys = map (numbered scope) query.group_by in
        let answer = λ (group : Group). map (answered group) (aggregates scope keys query.select) in
        ap (map answer) (groups_are scope query.group_by rows)
        ∙ map_agree answer (group_values scope query.select) (groups_of scope query.group_by rows)
        (all_mapped (HasKeyOf scope query.group_by) (λ group. answer group ≡ group_values scope query.select group)
        (λ group has. group_is query scope query.select group is e has) (groups_of scope query.group_by rows)
        (groups_have scope query.group_by rows))
    at false is =
        taken_are scope query.select rows
        (or_parts (has_aggregate query.select) (not (length query.group_by == 0)) is).0
