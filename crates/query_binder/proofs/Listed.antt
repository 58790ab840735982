-- The list of a query, with groups and without.
use Rattle.std.proofs.Common.{◌≡◌, ℕ, ◌==◌, true, false, not, ◌||◌, List, [], ◌∷◌, length, map}
use Rattle.std.proofs.Common.{if◌then◌else◌, Result, Ok, Err, refl, sym, ap, ◌∙◌, arith, rules}
use Rattle.std.specs.List.{list_any}
use Rattle.std.proofs.lemmas.Bool.{or_parts}
use Rattle.arrow_types.specs.declared.schema.Field.{Field}
use Rattle.arrow_types.specs.declared.schema.Schema.{Schema}
use Rattle.scan_base.specs.declared.fault.Fault.{Fault}
use Rattle.scan_base.specs.declared.fault.Fault.TheVariants.{NotInSubset}
use Rattle.sql_query.specs.declared.query.ColumnName.{ColumnName}
use Rattle.sql_query.specs.declared.query.Expression.{Expression}
use Rattle.sql_query.specs.declared.query.Expression.TheVariants.{Column, CountRows, Count, Sum}
use Rattle.sql_query.specs.declared.query.Select.TheVariants as select
use Rattle.sql_query.specs.declared.query.SelectItem.{SelectItem}
use Rattle.sql_query.specs.Sentence.{Sentence, is_aggregate, has_aggregate, is_grouped}
use Rattle.typed_plan.specs.declared.plan.Columns.TheVariants.{These}
use Rattle.typed_plan.specs.declared.plan.Output.{Output}
use Rattle.typed_plan.specs.declared.plan.Output.TheVariants.{Project, Groups}
use Rattle.query_binder.specs.NameRules.{expression_fault, may_select, select_fault, width_fault}
use Rattle.typed_plan.specs.Faults.{◌then◌, must, found, first_in, fault_in}
use Rattle.query_binder.specs.SelectList.{column_fault, aggregate_fault}
use Rattle.query_binder.specs.Outcome.{Binds}
use Rattle.query_binder.specs.PlaceTables.{output_fault}
use Rattle.query_binder.specs.PlannedTree.{number_of_item, aggregate_of, aggregates, chosen, output_for}
use Rattle.query_binder.specs.ResultSchema.{list_fields, select_fields}
use Rattle.typed_plan.specs.Scope.{Scope, column_of, numbered}
use Rattle.query_binder.proofs.Outcomes.{binds_as}

same_number : (a b : ℕ) → (a == b) ≡ (b == a)
same_number a b = grind arith

-- a column is one of GROUP BY where it is one of the key
among_key : (scope : Scope) (number : ℕ) (names : List ColumnName) →
    list_any (λ name. number == numbered scope name) names
    ≡ list_any (λ key. key == number) (map (numbered scope) names)
among_key scope number [] = refl
among_key scope number (name ∷ names) =
    ap (λ b. b || list_any (λ other. number == numbered scope other) names) (same_number number (numbered scope name))
    ∙ ap (λ b. (numbered scope name == number) || b) (among_key scope number names)

-- the faults of one item, and of all
grouped_item : (query : Sentence) (scope : Scope) (expression : Expression) → is_grouped query ≡ true →
    expression_fault query scope expression
    ≡ aggregate_fault scope (map (numbered scope) query.group_by) expression
grouped_item query scope (Column name) g = named (column_of scope name)
  where
    named : (meant : Result ℕ Fault) →
        found meant (λ number. must (may_select query scope number) NotInSubset)
        ≡ found meant (λ number. must (list_any (λ key. key == number) (map (numbered scope) query.group_by)) NotInSubset)
    named (Ok number) =
        ap (λ grouped. must (not grouped || list_any (λ name. number == numbered scope name) query.group_by) NotInSubset) g
        ∙ ap (λ there. must there NotInSubset) (among_key scope number query.group_by)
    named (Err fault) = refl
grouped_item query scope CountRows g = refl
grouped_item query scope (Count name) g = refl
grouped_item query scope (Sum name) g = refl

grouped_items : (query : Sentence) (scope : Scope) (items : List SelectItem) → is_grouped query ≡ true →
    first_in (λ item. expression_fault query scope item.expression) items
    ≡ first_in (λ item. aggregate_fault scope (map (numbered scope) query.group_by) item.expression) items
grouped_items query scope [] g = refl
grouped_items query scope (item ∷ items) g =
    ap (λ first. first then first_in (λ other. expression_fault query scope other.expression) items)
    (grouped_item query scope item.expression g)
    ∙ ap (λ rest. aggregate_fault scope (map (numbered scope) query.group_by) item.expression then rest)
    (grouped_items query scope items g)

plain_item : (query : Sentence) (scope : Scope) (expression : Expression) → is_grouped query ≡ false →
    is_aggregate expression ≡ false → expression_fault query scope expression ≡ column_fault scope expression
plain_item query scope (Column name) g a = named (column_of scope name)
  where
    named : (meant : Result ℕ Fault) →
        found meant (λ number. must (may_select query scope number) NotInSubset) ≡ fault_in meant
    named (Ok number) =
        ap (λ grouped. must (not grouped || list_any (λ name. number == numbered scope name) query.group_by) NotInSubset) g
    named (Err fault) = refl
plain_item query scope CountRows g a = cc
plain_item query scope (Count name) g a = cc
plain_item query scope (Sum name) g a = cc

plain_items : (query : Sentence) (scope : Scope) (items : List SelectItem) → is_grouped query ≡ false →
    list_any (λ item. is_aggregate item.expression) items ≡ false →
    first_in (λ item. expression_fault query scope item.expression) items
    ≡ first_in (λ item. column_fault scope item.expression) items
plain_items query scope [] g a = refl
plain_items query scope (item ∷ items) g a =
    let parts = or_parts (is_aggregate item.expression) (list_any (λ other. is_aggregate other.expression) items) a in
    ap (λ first. first then first_in (λ other. expression_fault query scope other.expression) items)
    (plain_item query scope item.expression g parts.0)
    ∙ ap (λ rest. column_fault scope item.expression then rest) (plain_items query scope items g parts.1)

-- a list with groups
pub grouped_output : (query : Sentence) (scope : Scope) (items : List SelectItem) (given : Result (Output × Schema) Fault) →
    query.select ≡ select.List items → is_grouped query ≡ true →
    Binds (first_in (λ name. fault_in (column_of scope name)) query.group_by
    then first_in (λ item. aggregate_fault scope (map (numbered scope) query.group_by) item.expression) items
    then width_fault (length items))
    (λ bound. (bound.0 ≡ Groups (map (numbered scope) query.group_by)
    (map (λ item. aggregate_of scope (map (numbered scope) query.group_by) item.expression) items))
    × (bound.1 ≡ record { fields = list_fields scope 0 items })) given →
    Binds (output_fault query scope)
    (λ bound. (bound.0 ≡ output_for query scope) × (bound.1 ≡ record { fields = select_fields scope query.select })) given
grouped_output query scope items given is g =
    let keys = map (numbered scope) query.group_by in
    let named = first_in (λ name. fault_in (column_of scope name)) query.group_by in
    let same : output_fault query scope
    ≡ (named then first_in (λ item. aggregate_fault scope keys item.expression) items then width_fault (length items)) =
    ap (λ selecting. named then select_fault query scope selecting) is
    ∙ ap (λ list. named then list then width_fault (length items)) (grouped_items query scope items g) in
    let output : output_for query scope ≡ Groups keys (map (λ item. aggregate_of scope keys item.expression) items) =
    ap (λ b. if b then Groups keys (aggregates scope keys query.select) else Project (chosen scope query.select)) g
    ∙ ap (λ selecting. Groups keys (aggregates scope keys selecting)) is in
    let fields : select_fields scope query.select ≡ list_fields scope 0 items = ap (select_fields scope) is in
    binds_as _ (output_fault query scope)
    (λ bound. (bound.0 ≡ Groups keys (map (λ item. aggregate_of scope keys item.expression) items))
    × (bound.1 ≡ record { fields = list_fields scope 0 items }))
    (λ bound. (bound.0 ≡ output_for query scope) × (bound.1 ≡ record { fields = select_fields scope query.select }))
    given (sym same)
    (λ bound b. (b.0 ∙ sym output, b.1 ∙ ap (λ (those : List Field). record { fields = those }) (sym fields)))

no_names : (names : List ColumnName) → not (length names == 0) ≡ false → names ≡ []
no_names [] e = refl
no_names (name ∷ names) e = let none : length (name ∷ names) ≡ 0 = search (rules, e) in absurd (omega (arith, none))

-- a list without groups
pub plain_output : (query : Sentence) (scope : Scope) (items : List SelectItem) (given : Result (Output × Schema) Fault) →
    query.select ≡ select.List items → is_grouped query ≡ false →
    Binds (first_in (λ item. column_fault scope item.expression) items then width_fault (length items))
    (λ bound. (bound.0 ≡ Project (These (map (number_of_item scope) items)))
    × (bound.1 ≡ record { fields = list_fields scope 0 items })) given →
    Binds (output_fault query scope)
    (λ bound. (bound.0 ≡ output_for query scope) × (bound.1 ≡ record { fields = select_fields scope query.select })) given
plain_output query scope items given is g =
    let parts = or_parts (has_aggregate query.select) (not (length query.group_by == 0)) g in
    let keys = map (numbered scope) query.group_by in
    let named = λ (names : List ColumnName). first_in (λ name. fault_in (column_of scope name)) names in
    let none : list_any (λ item. is_aggregate item.expression) items ≡ false = ap has_aggregate (sym is) ∙ parts.0 in
    let same : output_fault query scope
    ≡ (first_in (λ item. column_fault scope item.expression) items then width_fault (length items)) =
    ap (λ names. named names then select_fault query scope query.select) (no_names query.group_by parts.1)
    ∙ ap (select_fault query scope) is
    ∙ ap (λ list. list then width_fault (length items)) (plain_items query scope items g none) in
    let output : output_for query scope ≡ Project (These (map (number_of_item scope) items)) =
    ap (λ b. if b then Groups keys (aggregates scope keys query.select) else Project (chosen scope query.select)) g
    ∙ ap (λ selecting. Project (chosen scope selecting)) is in
    let fields : select_fields scope query.select ≡ list_fields scope 0 items = ap (select_fields scope) is in
    binds_as _ (output_fault query scope)
    (λ bound. (bound.0 ≡ Project (These (map (number_of_item scope) items)))
    × (bound.1 ≡ record { fields = list_fields scope 0 items }))
    (λ bound. (bound.0 ≡ output_for query scope) × (bound.1 ≡ record { fields = select_fields scope query.select }))
    given (sym same)
    (λ bound b. (b.0 ∙ sym output, b.1 ∙ ap (λ (those : List Field). record { fields = those }) (sym fields)))
