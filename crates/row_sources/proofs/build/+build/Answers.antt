use Rattle.std.proofs.Common.{◌≡◌, ◌≤◌, ◌<◌, inl, refl, ℕ, List, [], ◌∷◌, ◌++◌, length, map, Option, Some, ap, sym, ◌∙◌, subst, arith, rules, true, false}
use Rattle.std.specs.List.{flat_map, range_with_len}
use Rattle.std.specs.Option.{option_to_list}
use Rattle.std.proofs.lemmas.List.{length-append, length-map, map-append}
use Rattle.std.proofs.lemmas.Result.{IfOk-weaker}
use Rattle.arrays.specs.Batch.{BatchAt, rows_of}
use Rattle.scan_base.specs.Predicate.{Pred}
use Rattle.scan_base.specs.View.{pred_of}
use Rattle.table_versions.specs.StoredTables.{TableAt}
use Rattle.typed_plan.specs.declared.plan.Plan.{Plan}
use Rattle.typed_plan.specs.declared.plan.JoinKey.{JoinKey}
use Rattle.typed_plan.specs.HeldTables.{tree_schemas}
use Rattle.arrow_types.specs.declared.schema.Schema.{Schema}
use Rattle.table_versions.specs.Table.{Name}
use Rattle.typed_plan.specs.Plan.{Tree, scan, filtered, joined}
use Rattle.typed_plan.specs.TypedPlans.{IsTypedTree, is_place, tree_types}
use Rattle.typed_plan.specs.View.{tree_of}
use Rattle.row_sources.specs.declared.build.FilteredSource.{FilteredSource}
use Rattle.row_sources.specs.JoinParts.{CanJoin, JoinsRows}
use Rattle.row_sources.specs.BegunRows.{IsBegun}
use Rattle.row_sources.specs.FilteredSource.{filtered_source_at}
use Rattle.row_sources.specs.Parts.{first_batches}
use Rattle.row_sources.specs.JoinedRows.{source_at}
use Rattle.batch_skipping.specs.Narrow.{BeginsInFirst}
use Rattle.batch_skipping.specs.OpenedBatches.{batches_in}
use Rattle.row_sources.specs.Picking.{IsPick}
use Rattle.row_sources.specs.Running.{picked_of}
use Rattle.row_sources.proofs.BeginPick.{pick_with}
use Rattle.row_sources.proofs.BeginPlan.{schemas_of, sides_tables, can_join, joined_begun, tree_some}
use Rattle.row_sources.proofs.BeginTree.{filter_begun, filter_pick}
use Rattle.row_sources.proofs.NarrowRange.{all_whole}
use Rattle.row_sources.proofs.Sizes.{tree_size}
use Rattle.row_sources.proofs.build.+build.Goals as goal

pub returns-in-Filter-clause-sourced : goal.returns-in-Filter-clause-sourced
returns-in-Filter-clause-sourced g t c =
    let made = c.in_ok-made-in-Filter.made in
    let input = c.into_inner.result in
    let predicate : Pred ℕ = pred_of c.in-Filter.predicate in
    let filters : List (Pred ℕ) = map pred_of made.filters.items in
    let tree : tree_of c.args.plan ≡ filtered predicate (tree_of input) =
    ap tree_of c.in-Filter.is ∙ ap (λ (plan : Plan). filtered predicate (tree_of plan)) (sym c.into_inner.ensures) in
    let typed = subst IsTypedTree tree c.requires.typed in
    let pushed : map pred_of c.push.new.self.items ≡ filters ++ predicate ∷ [] =
    ap (map pred_of) c.in_ok-push-in-Filter.ensures.items ∙ map-append pred_of made.filters.items (c.in-Filter.predicate ∷ []) in
    let is = c.in_ok-made-in-Filter.ensures.sourced in
    record {
      source = is.source;
      pick = subst (λ (some : List (Pred ℕ)). IsPick (length (source_at made.source).types) (pick_with some made.columns.items)) (sym pushed)
          (filter_pick (source_at made.source) filters predicate made.columns.items (tree_of input) c.args.tables.items c.args.reading.from c.args.reading.to
          c.in_ok-made-in-Filter.ensures.begun (length (source_at made.source).types) is.pick
          (c.typed_predicates_name_columns.ensures (tree_types (tree_of input)) predicate typed.0));
      types = is.types;
    }

pub returns-in-Filter-clause-begun : goal.returns-in-Filter-clause-begun
returns-in-Filter-clause-begun g t c =
    let made = c.in_ok-made-in-Filter.made in
    let input = c.into_inner.result in
    let predicate : Pred ℕ = pred_of c.in-Filter.predicate in
    let filters : List (Pred ℕ) = map pred_of made.filters.items in
    let tree : tree_of c.args.plan ≡ filtered predicate (tree_of input) =
    ap tree_of c.in-Filter.is ∙ ap (λ (plan : Plan). filtered predicate (tree_of plan)) (sym c.into_inner.ensures) in
    let pushed : map pred_of c.push.new.self.items ≡ filters ++ predicate ∷ [] =
    ap (map pred_of) c.in_ok-push-in-Filter.ensures.items ∙ map-append pred_of made.filters.items (c.in-Filter.predicate ∷ []) in
    subst (λ (some : Tree). IsBegun some c.args.tables.items c.args.reading.from c.args.reading.to
    (picked_of (pick_with (map pred_of c.push.new.self.items) made.columns.items) (source_at made.source))) (sym tree)
    (subst (λ (some : List (Pred ℕ)). IsBegun (filtered predicate (tree_of input)) c.args.tables.items c.args.reading.from c.args.reading.to
    (picked_of (pick_with some made.columns.items) (source_at made.source))) (sym pushed)
    (filter_begun (source_at made.source) filters predicate made.columns.items (tree_of input) c.args.tables.items c.args.reading.from c.args.reading.to
    c.in_ok-made-in-Filter.ensures.begun))

pub returns-in-Filter-clause-few : goal.returns-in-Filter-clause-few
returns-in-Filter-clause-few g t c place =
    let input = c.into_inner.result in
    let predicate : Pred ℕ = pred_of c.in-Filter.predicate in
    let tree : tree_of c.args.plan ≡ filtered predicate (tree_of input) =
    ap tree_of c.in-Filter.is ∙ ap (λ (plan : Plan). filtered predicate (tree_of plan)) (sym c.into_inner.ensures) in
    c.in_ok-made-in-Filter.ensures.few (sym (ap is_place tree) ∙ place)

-- all tables, where the last one was taken
with_last : (all popped : List TableAt) (found : Option TableAt) (last : TableAt) → all ≡ popped ++ option_to_list found → found ≡ Some last → all ≡ popped ++ last ∷ []
with_last all popped found last e is = e ∙ ap (λ (some : Option TableAt). popped ++ option_to_list some) is

-- the first place is the same without the last one
first_front : (tables : List TableAt) (last : TableAt) → 0 < length tables → first_batches (tables ++ last ∷ []) ≡ first_batches tables
first_front [] last more = absurd (omega (arith, more))
first_front (table ∷ tables) last more = refl

pub build-requires-in-Join : goal.build-requires-in-Join
build-requires-in-Join g t c κs lives =
    let left = tree_of c.in-Join.left.value in
    let right = tree_of c.in-Join.right.value in
    let tree : tree_of c.args.plan ≡ joined left right c.in-Join.on = ap tree_of c.in-Join.is in
    let typed = subst IsTypedTree tree c.requires.typed in
    let popped = c.pop-in-Join.new.self.items in
    let all = with_last c.args.tables.items popped c.pop-in-Join.result c.in_ok-table-in-Join.table c.pop-in-Join.ensures.items c.in_ok-table-in-Join.ensures.ok_part in
    let sides = sides_tables left right c.args.tables.items popped c.in_ok-table-in-Join.table typed.2 (sym (ap tree_schemas tree) ∙ c.requires.schemas) all in
    let first : first_batches c.args.tables.items ≡ first_batches popped = ap first_batches all ∙ first_front popped c.in_ok-table-in-Join.table
    (omega (arith, tree_some left, ap length sides.0, length-map popped (λ (table : TableAt). table.schema))) in
    let smaller : tree_size (tree_of c.into_inner-in-Join.result) < tree_size (tree_of c.args.plan) =
    omega (arith, ap (λ (plan : Plan). tree_size (tree_of plan)) c.into_inner-in-Join.ensures, ap tree_size tree) in (
      first_of (omega (arith, smaller), search (rules, smaller)),
      (
        lives,
        (
          subst (λ (plan : Plan). IsTypedTree (tree_of plan)) (sym c.into_inner-in-Join.ensures) typed.0,
          (
            ap (λ (plan : Plan). tree_schemas (tree_of plan)) c.into_inner-in-Join.ensures ∙ sides.0,
            (
              subst (BeginsInFirst c.args.reading.from) first c.requires.first,
              (
                subst (λ (batches : List BatchAt). batches_in c.args.reading.from c.args.reading.to batches ≡ range_with_len 0 (length batches)) first c.requires.each,
                c.requires.ready,
              ),
            ),
          ),
        ),
      ),
    )

pub build-requires-in-Join-2 : goal.build-requires-in-Join-2
build-requires-in-Join-2 g t c κs lives =
    let left = tree_of c.in-Join.left.value in
    let right = tree_of c.in-Join.right.value in
    let table = c.in_ok-table-in-Join.table in
    let tree : tree_of c.args.plan ≡ joined left right c.in-Join.on = ap tree_of c.in-Join.is in
    let typed = subst IsTypedTree tree c.requires.typed in
    let popped = c.pop-in-Join.new.self.items in
    let all = with_last c.args.tables.items popped c.pop-in-Join.result table c.pop-in-Join.ensures.items c.in_ok-table-in-Join.ensures.ok_part in
    let sides = sides_tables left right c.args.tables.items popped table typed.2 (sym (ap tree_schemas tree) ∙ c.requires.schemas) all in
    let lasts : c.push-in-Join.new.self.items ≡ table ∷ [] = c.in_ok-push-in-Join.ensures.items ∙ ap (λ (some : List TableAt). some ++ table ∷ []) c.new-last.ensures.items in
    let smaller : tree_size (tree_of c.into_inner-in-Join-2.result) < tree_size (tree_of c.args.plan) =
    omega (arith, ap (λ (plan : Plan). tree_size (tree_of plan)) c.into_inner-in-Join-2.ensures, ap tree_size tree) in (
      first_of (omega (arith, smaller), search (rules, smaller)),
      (
        lives,
        (
          subst (λ (plan : Plan). IsTypedTree (tree_of plan)) (sym c.into_inner-in-Join-2.ensures) typed.1,
          (
            ap (λ (plan : Plan). tree_schemas (tree_of plan)) c.into_inner-in-Join-2.ensures ∙ sides.1 ∙ ap schemas_of (sym lasts),
            (
              inl refl,
              (
                subst (λ (tables : List TableAt). batches_in 0 c.rows-to.result (first_batches tables) ≡ range_with_len 0 (length (first_batches tables))) (sym lasts)
                    (all_whole table c.rows-to.result c.rows-to.ensures.kept),
                c.in_ok-left-in-Join.ensures.ready,
              ),
            ),
          ),
        ),
      ),
    )

pub join_source-requires-clause-joinable : goal.join_source-requires-clause-joinable
join_source-requires-clause-joinable g t c =
    let left = tree_of c.in-Join.left.value in
    let right = tree_of c.in-Join.right.value in
    let table = c.in_ok-table-in-Join.table in
    let popped = c.pop-in-Join.new.self.items in
    let from = c.args.reading.from in
    let to = c.args.reading.to in
    let a = filtered_source_at c.in_ok-left-in-Join.left in
    let b = filtered_source_at c.in_ok-right-in-Join.right in
    let kept = c.rows-to.ensures.kept in
    let tree : tree_of c.args.plan ≡ joined left right c.in-Join.on = ap tree_of c.in-Join.is in
    let typed = subst IsTypedTree tree c.requires.typed in
    let lasts : c.push-in-Join.new.self.items ≡ table ∷ [] = c.in_ok-push-in-Join.ensures.items ∙ ap (λ (some : List TableAt). some ++ table ∷ []) c.new-last.ensures.items in
    let l = subst (λ (plan : Plan). IsBegun (tree_of plan) popped from to a) c.into_inner-in-Join.ensures c.in_ok-left-in-Join.ensures.begun in
    let r = subst (λ (some : List TableAt). IsBegun right some 0 c.rows-to.result b) lasts
    (subst (λ (plan : Plan). IsBegun (tree_of plan) c.push-in-Join.new.self.items 0 c.rows-to.result b) c.into_inner-in-Join-2.ensures c.in_ok-right-in-Join.ensures.begun) in
    subst (λ (on : List JoinKey). CanJoin on a b) (sym c.as_slice.ensures)
    (can_join left right c.in-Join.on popped table from to c.rows-to.result a b typed l r kept.counted kept.few)

pub returns-clause-begun : goal.returns-clause-begun
returns-clause-begun g t c =
    let left = tree_of c.in-Join.left.value in
    let right = tree_of c.in-Join.right.value in
    let table = c.in_ok-table-in-Join.table in
    let popped = c.pop-in-Join.new.self.items in
    let from = c.args.reading.from in
    let to = c.args.reading.to in
    let a = filtered_source_at c.in_ok-left-in-Join.left in
    let b = filtered_source_at c.in_ok-right-in-Join.right in
    let kept = c.rows-to.ensures.kept in
    let tree : tree_of c.args.plan ≡ joined left right c.in-Join.on = ap tree_of c.in-Join.is in
    let typed = subst IsTypedTree tree c.requires.typed in
    let all = with_last c.args.tables.items popped c.pop-in-Join.result table c.pop-in-Join.ensures.items c.in_ok-table-in-Join.ensures.ok_part in
    let sides = sides_tables left right c.args.tables.items popped table typed.2 (sym (ap tree_schemas tree) ∙ c.requires.schemas) all in
    let lasts : c.push-in-Join.new.self.items ≡ table ∷ [] = c.in_ok-push-in-Join.ensures.items ∙ ap (λ (some : List TableAt). some ++ table ∷ []) c.new-last.ensures.items in
    let l = subst (λ (plan : Plan). IsBegun (tree_of plan) popped from to a) c.into_inner-in-Join.ensures c.in_ok-left-in-Join.ensures.begun in
    let r = subst (λ (some : List TableAt). IsBegun right some 0 c.rows-to.result b) lasts
    (subst (λ (plan : Plan). IsBegun (tree_of plan) c.push-in-Join.new.self.items 0 c.rows-to.result b) c.into_inner-in-Join-2.ensures c.in_ok-right-in-Join.ensures.begun) in
    IfOk-weaker c.join_source.result (λ (made : FilteredSource). JoinsRows c.as_slice.result.now a b (filtered_source_at made))
    (λ (made : FilteredSource). IsBegun (tree_of c.args.plan) c.args.tables.items from to (filtered_source_at made))
    (λ (made : FilteredSource) joins.
    subst (λ (some : Tree). IsBegun some c.args.tables.items from to (filtered_source_at made)) (sym tree)
    (subst (λ (tables : List TableAt). IsBegun (joined left right c.in-Join.on) tables from to (filtered_source_at made)) (sym all)
    (joined_begun left right c.in-Join.on popped table from to c.rows-to.result a b (filtered_source_at made) l r kept.counted typed.2 sides.0
    (subst (λ (on : List JoinKey). JoinsRows on a b (filtered_source_at made)) c.as_slice.ensures joins))))
    c.join_source.ensures.joins

-- a join is no place
pub returns-clause-few : goal.returns-clause-few
returns-clause-few g t c =
    let left = tree_of c.in-Join.left.value in
    let right = tree_of c.in-Join.right.value in
    let tree : tree_of c.args.plan ≡ joined left right c.in-Join.on = ap tree_of c.in-Join.is in
    let none : is_place (tree_of c.args.plan) ≡ false = ap is_place tree in
    IfOk-weaker c.join_source.result (λ (made : FilteredSource). JoinsRows c.as_slice.result.now (filtered_source_at c.in_ok-left-in-Join.left) (filtered_source_at c.in_ok-right-in-Join.right) (filtered_source_at made))
    (λ (made : FilteredSource). is_place (tree_of c.args.plan) ≡ true → length (source_at made.source).ahead ≤ length (flat_map rows_of (first_batches c.args.tables.items)))
    (λ (made : FilteredSource) joins place. absurd cc)
    c.join_source.ensures.joins

-- the one table of a place
single : (tables popped : List TableAt) (last : TableAt) (schema : Schema) → schema ∷ [] ≡ schemas_of tables → tables ≡ popped ++ last ∷ [] →
    (tables ≡ last ∷ []) × (schema ≡ last.schema)
single tables [] last schema e all =
    let one : schema ∷ [] ≡ last.schema ∷ [] = e ∙ ap schemas_of all in
    (all, cc)
single tables (first ∷ popped) last schema e all =
    absurd (omega (arith, ap length e, ap length all, length-map tables (λ (table : TableAt). table.schema), length-append popped (last ∷ [])))

pub returns-in-Scan-clause-begun : goal.returns-in-Scan-clause-begun
returns-in-Scan-clause-begun g t c =
    let table = c.in_ok-table-in-Scan.table in
    let name = c.in-Scan.table in
    let some = c.in-Scan.columns in
    let from = c.args.reading.from in
    let to = c.args.reading.to in
    let tree : tree_of c.args.plan ≡ scan name c.in-Scan.schema some = ap tree_of c.in-Scan.is in
    let all = with_last c.args.tables.items c.pop.new.self.items c.pop.result table c.pop.ensures.items c.in_ok-table-in-Scan.ensures.ok_part in
    let one = single c.args.tables.items c.pop.new.self.items table c.in-Scan.schema (sym (ap tree_schemas tree) ∙ c.requires.schemas) all in
    IfOk-weaker c.scan_source.result (λ (made : FilteredSource). (name : Name) → IsBegun (scan name table.schema some) (table ∷ []) from to (filtered_source_at made))
    (λ (made : FilteredSource). IsBegun (tree_of c.args.plan) c.args.tables.items from to (filtered_source_at made))
    (λ (made : FilteredSource) begun.
    subst (λ (tables : List TableAt). IsBegun (tree_of c.args.plan) tables from to (filtered_source_at made)) (sym one.0)
    (subst (λ (some_tree : Tree). IsBegun some_tree (table ∷ []) from to (filtered_source_at made)) (sym tree)
    (subst (λ (schema : Schema). IsBegun (scan name schema some) (table ∷ []) from to (filtered_source_at made)) (sym one.1) (begun name))))
    c.scan_source.ensures.begun
