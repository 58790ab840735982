-- What a result takes of columns that are alike.
use Rattle.std.proofs.Common.{◌≡◌, ℕ, Bool, ◌&&◌, List, [], ◌∷◌, length, map, nat_lt, refl, sym, ap, ◌∙◌}
use Rattle.std.specs.List.{list_all}
use Rattle.std.proofs.lemmas.List.{length-map}
use Rattle.arrow_types.specs.Answer.{copied_type}
use Rattle.arrow_types.specs.declared.data_type.DataType.{DataType}
use Rattle.arrow_types.specs.declared.data_type.DataType.TheVariants.{Dictionary}
use Rattle.typed_plan.specs.Class.{can_sum}
use Rattle.typed_plan.specs.declared.plan.Aggregate.{Aggregate}
use Rattle.typed_plan.specs.declared.plan.Aggregate.TheVariants.{Key, CountRows, Count, Sum}
use Rattle.typed_plan.specs.declared.plan.Output.{Output}
use Rattle.typed_plan.specs.declared.plan.Output.TheVariants.{Project, Groups}
use Rattle.typed_plan.specs.TypedPlans.{HasOutput, IsTyped, has_columns, has_item, tree_types, type_at}
use Rattle.typed_plan.specs.View.{BoundAt, plan_of, tree_of}
use Rattle.row_sources.specs.BegunRows.{IsBegun}
use Rattle.row_sources.specs.Running.{RowsAt}
use Rattle.row_sources.proofs.Lying.{all_alike}
use Rattle.scan_exec.proofs.Beginning.{type_copied}

-- what is summed is no dictionary
sum_copied : (t : DataType) → can_sum (copied_type t) ≡ can_sum t
sum_copied (Dictionary encoding) = refl
sum_copied other = refl

module _ (some others : List DataType) (e : map copied_type some ≡ map copied_type others) where
  long : length some ≡ length others
  long = sym (length-map some copied_type) ∙ ap length e ∙ length-map others copied_type

  sum_same : (column : ℕ) → can_sum (type_at some column) ≡ can_sum (type_at others column)
  sum_same column =
      sym (sum_copied (type_at some column)) ∙ ap can_sum (type_copied some column ∙ ap (λ (types : List DataType). type_at types column) e
      ∙ sym (type_copied others column)) ∙ sum_copied (type_at others column)

  item_same : (keys : ℕ) (item : Aggregate) → has_item keys some item ≡ has_item keys others item
  item_same keys (Key place) = refl
  item_same keys CountRows = refl
  item_same keys (Count column) = ap (nat_lt column) long
  item_same keys (Sum column) = ap (λ (n : ℕ). nat_lt column n && can_sum (type_at some column)) long ∙ ap (λ (b : Bool). nat_lt column (length others) && b) (sum_same column)

  items_same : (keys : ℕ) (items : List Aggregate) → list_all (has_item keys some) items ≡ list_all (has_item keys others) items
  items_same keys [] = refl
  items_same keys (item ∷ items) = rw (item_same keys item, items_same keys items) refl

  -- an output that is there for the ones is there for the others
  pub output_alike : (output : Output) → HasOutput output others → HasOutput output some
  output_alike (Project columns) has = ap (λ (n : ℕ). has_columns n columns) long ∙ has
  output_alike (Groups keys items) has =
      (ap (λ (n : ℕ). list_all (λ key. nat_lt key n) keys) long ∙ has.0, items_same (length keys) items ∙ has.1)

-- what a result takes of a source that begins is there
module _ (bound : BoundAt) (from to : ℕ) (typed : IsTyped (plan_of bound)) (rows : RowsAt)
    (begun : IsBegun (tree_of bound.plan) bound.tables from to rows) where
  pub output_there : HasOutput bound.output rows.types
  output_there = output_alike rows.types (tree_types (tree_of bound.plan))
      (all_alike (tree_types (tree_of bound.plan)) rows.types begun.types) bound.output typed.output
