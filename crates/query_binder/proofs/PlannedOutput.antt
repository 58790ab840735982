-- What a query takes of its rows is there, and has the types of the result's columns.
use Rattle.std.proofs.Common.{◌≡◌, ℕ, suc, ◌+◌, ◌==◌, Bool, true, false, not, ◌&&◌, ◌||◌, if◌then◌else◌, List, [], ◌∷◌}
use Rattle.std.proofs.Common.{map, length, nat_lt, get_or, slice_get, unwrap_or, Option, Some, None, option_map}
use Rattle.std.proofs.Common.{Result, Ok, Err, refl, sym, ap, ◌∙◌, arith}
use Rattle.std.specs.List.{list_all, list_any}
use Rattle.std.proofs.lemmas.Bool.{and_from, or_parts, eqb-true, eq-eqb, lt-ltb, ltb-true}
use Rattle.std.proofs.lemmas.Option.{slice_get-map}
use Rattle.std.proofs.Math.Numerals.{one-add}
use Rattle.arrow_types.specs.declared.data_type.DataType.TheVariants.{Utf8}
use Rattle.arrow_types.specs.Answer.{answered_at, answered_from}
use Rattle.scan_base.specs.declared.fault.Fault.{Fault}
use Rattle.scan_base.specs.declared.fault.Fault.TheVariants.{NotInSubset, TypeClash}
use Rattle.sql_query.specs.declared.query.ColumnName.{ColumnName}
use Rattle.sql_query.specs.declared.query.Expression.{Expression}
use Rattle.sql_query.specs.declared.query.Expression.TheVariants.{Column, CountRows, Count, Sum}
use Rattle.sql_query.specs.declared.query.Select.{Select}
use Rattle.sql_query.specs.declared.query.Select.TheVariants as select
use Rattle.sql_query.specs.declared.query.SelectItem.{SelectItem}
use Rattle.sql_query.specs.Sentence.{Sentence, is_aggregate, has_aggregate, is_grouped, is_all}
use Rattle.typed_plan.specs.declared.plan.Output.{Output}
use Rattle.typed_plan.specs.declared.plan.Output.TheVariants.{Project, Groups}
use Rattle.query_binder.specs.NameRules.{may_select, expression_fault, width_fault, select_fault}
use Rattle.typed_plan.specs.Class.{can_sum}
use Rattle.typed_plan.specs.Faults.{◌then◌, must, found, first_in, fault_in}
use Rattle.query_binder.specs.NameClasses.{sums_at}
use Rattle.query_binder.specs.PlannedTree.{number_of_item, chosen, key_place, aggregate_of, aggregates, output_for}
use Rattle.query_binder.specs.ResultSchema.{field_at, expression_field, list_fields, numbered_fields, select_fields}
use Rattle.typed_plan.specs.Scope.{Scope, ScopeColumn, column_of, number_in, numbered}
use Rattle.typed_plan.specs.TypedPlans.{types_of, type_at, has_item, item_type, output_types, HasOutput}
use Rattle.query_binder.proofs.PlannedJoins.{must_none}
use Rattle.query_binder.proofs.ScopeTypes.{type_in, scope_types, numbered_there}
use Rattle.typed_plan.proofs.TypedNames.{then_none}

-- an output is there, of columns of a scope, and has the types that its schema says
pub record IsOutputOf (scope : Scope) (selecting : Select) (output : Output) : Type 0 where
  pub there : HasOutput output (scope_types scope)
  pub types : types_of (select_fields scope selecting) ≡ answered_from 0 (output_types output (scope_types scope))

found_fault : {A : Type 0} (result : Result A Fault) (check : A → Option Fault) → found result check ≡ None →
    fault_in result ≡ None
found_fault (Ok x) check e = refl
found_fault (Err fault) check e = cc

found_check : (result : Result ℕ Fault) (check : ℕ → Option Fault) → found result check ≡ None →
    check (number_in result) ≡ None
found_check (Ok number) check e = e
found_check (Err fault) check e = cc

answered : (place : ℕ) (there : Option ScopeColumn) →
    (field_at place there).data_type ≡ answered_at place (unwrap_or (option_map type_in there) Utf8)
answered place None = refl
answered place (Some column) = refl

-- the type of the result's column at a place, for the column of a number
answered_type : (scope : Scope) (place number : ℕ) →
    (field_at place (slice_get scope number)).data_type ≡ answered_at place (type_at (scope_types scope) number)
answered_type scope place number =
    answered place (slice_get scope number)
    ∙ ap (λ there. answered_at place (unwrap_or there Utf8)) (sym (slice_get-map type_in scope number))

-- a column that has a sum is of a type that has one
sums_typed : (scope : Scope) (number : ℕ) → sums_at (slice_get scope number) ≡ true → can_sum (type_at (scope_types scope) number) ≡ true
sums_typed scope number sums =
    ap (λ there. can_sum (unwrap_or there Utf8)) (slice_get-map type_in scope number) ∙ of (slice_get scope number) sums
  where
    of : (there : Option ScopeColumn) → sums_at there ≡ true → can_sum (unwrap_or (option_map type_in there) Utf8) ≡ true
    of None e = cc
    of (Some column) e = e

-- Without groups

project_item : (query : Sentence) (scope : Scope) (position : ℕ) (expression : Expression) →
    is_aggregate expression ≡ false → expression_fault query scope expression ≡ None →
    (nat_lt (number_of_item scope (record { expression = expression; alias = None })) (length (scope_types scope)) ≡ true)
    × ((expression_field scope position expression).data_type ≡ answered_at position (type_at (scope_types scope)
    (number_of_item scope (record { expression = expression; alias = None }))))
project_item query scope position (Column name) plain e = (
  numbered_there scope name
      (found_fault (column_of scope name) (λ number. must (may_select query scope number) NotInSubset) e),
  answered_type scope position (numbered scope name),
)
project_item query scope position CountRows plain e = cc
project_item query scope position (Count name) plain e = cc
project_item query scope position (Sum name) plain e = cc

project_items : (query : Sentence) (scope : Scope) (position : ℕ) (items : List SelectItem) →
    list_any (λ item. is_aggregate item.expression) items ≡ false →
    first_in (λ item. expression_fault query scope item.expression) items ≡ None →
    (list_all (λ column. nat_lt column (length (scope_types scope))) (map (number_of_item scope) items) ≡ true)
    × (types_of (list_fields scope position items)
    ≡ answered_from position (map (type_at (scope_types scope)) (map (number_of_item scope) items)))
project_items query scope position [] plain e = (refl, refl)
project_items query scope position (item ∷ items) plain e =
    let types = scope_types scope in
    let kinds = or_parts (is_aggregate item.expression) (list_any (λ item. is_aggregate item.expression) items) plain in
    let parts = then_none (expression_fault query scope item.expression)
    (first_in (λ item. expression_fault query scope item.expression) items) e in
    let here = project_item query scope position item.expression kinds.0 parts.0 in
    let others = project_items query scope (position + 1) items kinds.1 parts.1 in (
      and_from (nat_lt (number_of_item scope item) (length types))
          (list_all (λ column. nat_lt column (length types)) (map (number_of_item scope) items)) here.0 others.0,
      ap (λ data_type. data_type ∷ types_of (list_fields scope (position + 1) items)) here.1
          ∙ ap (λ others. answered_at position (type_at types (number_of_item scope item)) ∷ others) others.1,
    )

pub all_types : (place : ℕ) (scope : Scope) → types_of (numbered_fields place scope) ≡ answered_from place (scope_types scope)
all_types place [] = refl
all_types place (column ∷ scope) =
    ap (λ types. answered_at place column.field.data_type ∷ types) (all_types (place + 1) scope)

project_typed : (query : Sentence) (scope : Scope) (selecting : Select) → has_aggregate selecting ≡ false →
    select_fault query scope selecting ≡ None → IsOutputOf scope selecting (Project (chosen scope selecting))
project_typed query scope select.All plain e = record { there = refl; types = all_types 0 scope }
project_typed query scope (select.List items) plain e =
    let parts = then_none (first_in (λ item. expression_fault query scope item.expression) items)
    (width_fault (length items)) e in
    let typed = project_items query scope 0 items plain parts.0 in
    record { there = typed.0; types = typed.1 }

-- Of groups

keys_there : (scope : Scope) (names : List ColumnName) →
    first_in (λ name. fault_in (column_of scope name)) names ≡ None →
    list_all (λ key. nat_lt key (length (scope_types scope))) (map (numbered scope) names) ≡ true
keys_there scope [] e = refl
keys_there scope (name ∷ names) e =
    let parts = then_none (fault_in (column_of scope name)) (first_in (λ name. fault_in (column_of scope name)) names) e in
    and_from (nat_lt (numbered scope name) (length (scope_types scope)))
    (list_all (λ key. nat_lt key (length (scope_types scope))) (map (numbered scope) names))
    (numbered_there scope name parts.0) (keys_there scope names parts.1)

-- the place of a column that is a key's
pub record IsKeyPlace (keys : List ℕ) (number place : ℕ) : Type 0 where
  pub there : nat_lt place (length keys) ≡ true
  pub same : get_or keys place 0 ≡ number

next_place : (key : ℕ) (keys : List ℕ) (number place : ℕ) → IsKeyPlace keys number place →
    IsKeyPlace (key ∷ keys) number (1 + place)
next_place key keys number place is =
    let below = ltb-true place (length keys) is.there in
    rw one-add (record { there = lt-ltb (suc place) (suc (length keys)) (omega (arith, below)); same = is.same })

-- whether a column is one of these names'
abbrev is_among : Scope → List ColumnName → ℕ → Bool
is_among scope names number = list_any (λ name. number == numbered scope name) names

-- the place of a column that is a key's, as it is looked for
abbrev HasPlace : List ℕ → ℕ → Type 0
HasPlace keys number = IsKeyPlace keys number (key_place keys number)

-- the first key, or one of the others
key_found : (key : ℕ) (keys : List ℕ) (number : ℕ) (others : Bool) → (others ≡ true → HasPlace keys number) →
    ((number == key) || others) ≡ true → HasPlace (key ∷ keys) number
key_found key keys number others place e = of_first (key == number) refl (number == key) refl e
  where
    of_first : (same : Bool) → (key == number) ≡ same → (turned : Bool) → (number == key) ≡ turned →
        (turned || others) ≡ true →
        IsKeyPlace (key ∷ keys) number (if same then 0 else 1 + key_place keys number)
    of_first true is turned f d = record { there = lt-ltb 0 (suc (length keys)) (omega arith); same = eqb-true key number is }
    of_first false is true f d =
        let same : (key == number) ≡ true = eq-eqb key number (sym (eqb-true number key f)) in
        cc
    of_first false is false f d = next_place key keys number (key_place keys number) (place d)

key_there : (scope : Scope) (names : List ColumnName) (number : ℕ) → is_among scope names number ≡ true →
    HasPlace (map (numbered scope) names) number
key_there scope [] number e = cc
key_there scope (name ∷ names) number e =
    key_found (numbered scope name) (map (numbered scope) names) number (is_among scope names number)
    (key_there scope names number) e

group_item : (query : Sentence) (scope : Scope) (position : ℕ) (expression : Expression) → is_grouped query ≡ true →
    expression_fault query scope expression ≡ None →
    (has_item (length (map (numbered scope) query.group_by)) (scope_types scope)
    (aggregate_of scope (map (numbered scope) query.group_by) expression) ≡ true)
    × ((expression_field scope position expression).data_type
    ≡ answered_at position (item_type (map (numbered scope) query.group_by) (scope_types scope)
    (aggregate_of scope (map (numbered scope) query.group_by) expression)))
group_item query scope position (Column name) grouped e =
    let number = numbered scope name in
    let may = must_none (may_select query scope number) NotInSubset
    (found_check (column_of scope name) (λ number. must (may_select query scope number) NotInSubset) e) in
    let among : list_any (λ name. number == numbered scope name) query.group_by ≡ true =
    sym (ap (λ grouped. not grouped || list_any (λ name. number == numbered scope name) query.group_by) grouped) ∙ may in
    let place = key_there scope query.group_by number among in (
      place.there,
      answered_type scope position number
          ∙ ap (λ number. answered_at position (type_at (scope_types scope) number)) (sym place.same),
    )
group_item query scope position CountRows grouped e = (refl, refl)
group_item query scope position (Count name) grouped e = (numbered_there scope name e, refl)
group_item query scope position (Sum name) grouped e =
    let number = numbered scope name in
    let check : ℕ → Option Fault = λ number. must (sums_at (slice_get scope number)) TypeClash in
    let sums = must_none (sums_at (slice_get scope number)) TypeClash (found_check (column_of scope name) check e) in
    let of_type = sums_typed scope number sums in (
      and_from (nat_lt number (length (scope_types scope))) (can_sum (type_at (scope_types scope) number))
          (numbered_there scope name (found_fault (column_of scope name) check e)) of_type,
      refl,
    )

group_items : (query : Sentence) (scope : Scope) (position : ℕ) (items : List SelectItem) → is_grouped query ≡ true →
    first_in (λ item. expression_fault query scope item.expression) items ≡ None →
    (list_all (has_item (length (map (numbered scope) query.group_by)) (scope_types scope))
    (aggregates scope (map (numbered scope) query.group_by) (select.List items)) ≡ true)
    × (types_of (list_fields scope position items)
    ≡ answered_from position (map (item_type (map (numbered scope) query.group_by) (scope_types scope))
    (aggregates scope (map (numbered scope) query.group_by) (select.List items))))
group_items query scope position [] grouped e = (refl, refl)
group_items query scope position (item ∷ items) grouped e =
    let types = scope_types scope in
    let keys = map (numbered scope) query.group_by in
    let parts = then_none (expression_fault query scope item.expression)
    (first_in (λ item. expression_fault query scope item.expression) items) e in
    let here = group_item query scope position item.expression grouped parts.0 in
    let others = group_items query scope (position + 1) items grouped parts.1 in (
      and_from (has_item (length keys) types (aggregate_of scope keys item.expression))
          (list_all (has_item (length keys) types) (aggregates scope keys (select.List items))) here.0 others.0,
      ap (λ data_type. data_type ∷ types_of (list_fields scope (position + 1) items)) here.1
          ∙ ap (λ others. answered_at position (item_type keys types (aggregate_of scope keys item.expression)) ∷ others) others.1,
    )

groups_typed : (query : Sentence) (scope : Scope) (selecting : Select) → is_grouped query ≡ true →
    (has_aggregate selecting || not (length query.group_by == 0)) ≡ true →
    (is_all selecting && not (length query.group_by == 0)) ≡ false →
    first_in (λ name. fault_in (column_of scope name)) query.group_by ≡ None →
    select_fault query scope selecting ≡ None →
    IsOutputOf scope selecting
    (Groups (map (numbered scope) query.group_by) (aggregates scope (map (numbered scope) query.group_by) selecting))
groups_typed query scope select.All grouped some none f e = cc
groups_typed query scope (select.List items) grouped some none f e =
    let parts = then_none (first_in (λ item. expression_fault query scope item.expression) items)
    (width_fault (length items)) e in
    let typed = group_items query scope 0 items grouped parts.0 in
    record { there = (keys_there scope query.group_by f, typed.0); types = typed.1 }

-- what a query takes that has no fault
pub output_typed : (query : Sentence) (scope : Scope) →
    (is_all query.select && not (length query.group_by == 0)) ≡ false →
    first_in (λ name. fault_in (column_of scope name)) query.group_by ≡ None →
    select_fault query scope query.select ≡ None → IsOutputOf scope query.select (output_for query scope)
output_typed query scope none f e = of_grouped (is_grouped query) refl
  where
    of_grouped : (grouped : Bool) → is_grouped query ≡ grouped → IsOutputOf scope query.select
        (if grouped then Groups (map (numbered scope) query.group_by)
        (aggregates scope (map (numbered scope) query.group_by) query.select)
        else Project (chosen scope query.select))
    of_grouped true is = groups_typed query scope query.select is is none f e
    of_grouped false is =
        project_typed query scope query.select
        (or_parts (has_aggregate query.select) (not (length query.group_by == 0)) is).0 e
