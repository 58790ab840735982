use Rattle.std.specs.Prelude.{IsTrue}
use Rattle.std.proofs.Common.{All, ◌≡◌, ◌≤◌, ◌<◌, ◌+◌, ◌*◌, ◌∷◌, ℕ, Bool, List, Bor, length, map, ap, sym, ◌∙◌, subst, arith}
use Rattle.std.proofs.lemmas.List.{length-map}
use Rattle.std.specs.List.{filter, list_all}
use Rattle.rewrite.specs.Conjuncts.{is_between}
use Rattle.scan_base.specs.declared.predicate.Predicate.{Predicate}
use Rattle.scan_base.specs.Predicate.{Pred, names_only}
use Rattle.scan_base.specs.View.{pred_of}
use Rattle.table_versions.specs.StoredTables.{TableAt, table_of}
use Rattle.typed_plan.specs.declared.plan.Columns.{Columns}
use Rattle.typed_plan.specs.declared.plan.Plan.{Plan}
use Rattle.typed_plan.specs.View.{tree_of}
use Rattle.arrow_types.specs.declared.schema.Schema.{Schema}
use Rattle.table_versions.specs.KeptTables.{IsKept}
use Rattle.typed_plan.specs.TypedPlans.{has_columns}
use Rattle.batch_skipping.specs.declared.place_filter.PlaceColumns.{PlaceColumns}
use Rattle.batch_skipping.specs.PlaceLists.{AreLists, IsListOf}
use Rattle.batch_skipping.specs.OpenedBatches.{batches_in, first_numbers, further_numbers, given_width, judged_count, place_opened, scans_of, where_parts}
use Rattle.batch_skipping.specs.inside.JudgedBatches.{judged_before}
use Rattle.batch_skipping.proofs.Places.{AreBegun, count_all, count_next, count_none, all_pass, all_lists, all_numbers, at_map, begin_at, begin_first, begin_other, end_first, end_other, begun_all, begun_more, end_at, fit_all, fit_at, fit_long, kept_are}
use Rattle.batch_skipping.proofs.opened_batches.opened_lists.Goals.{then-place-eq0, else-place-eq0, then-place-eq0-2, else-place-eq0-2}
use Rattle.batch_skipping.proofs.opened_batches.opened_lists.Goals as goal

pub index-columns-requires : goal.index-columns-requires
index-columns-requires g c =
    let tables = c.tables-tables.result.now in
    let scans = map (λ (columns : Bor Columns). columns.now) c.in_ok-scans.scans.items in
    let fit = fit_all (tree_of c.args.plan.now.plan) scans tables c.plan.ensures.typed.tree
    (c.in_ok-scans.ensures ∙ ap (λ (plan : Plan). scans_of (tree_of plan)) c.plan-2.ensures.plan)
    (c.tables-tables.ensures.columns ∙ sym (ap (map (λ (table : TableAt). table.schema)) c.tables-tables.ensures.tables)) in
    let long = fit_long scans tables fit in
    let same = length-map c.in_ok-scans.scans.items (λ (columns : Bor Columns). columns.now) in
    omega (arith, long, same, c.loop-place-test.true, c.in_ok-scans.scans.ok)

pub place_list-requires-clause-own : goal.place_list-requires-clause-own
place_list-requires-clause-own g c =
    let said : Bor (Predicate ℕ) → Pred ℕ = λ part. pred_of part.now in
    let own = c.in_ok-filter.filter in
    let test : Pred ℕ → Bool = names_only (is_between c.loop-place.first c.given_width-width.result) in
    ap (λ (p : PlaceColumns). list_all (names_only (is_between p.first p.width)) (map said own.parts.items)) c.in_ok-filter.ensures.place
    ∙ ap (list_all test) c.in_ok-filter.ensures.parts ∙ all_pass test (map said c.as_slice.result.now)

pub place_list-requires-clause-fit : goal.place_list-requires-clause-fit
place_list-requires-clause-fit g c =
    let scans = map (λ (columns : Bor Columns). columns.now) c.in_ok-scans.scans.items in
    let tables = c.tables-tables.result.now in
    let fit = fit_all (tree_of c.args.plan.now.plan) scans tables c.plan.ensures.typed.tree
    (c.in_ok-scans.ensures ∙ ap (λ (plan : Plan). scans_of (tree_of plan)) c.plan-2.ensures.plan)
    (c.tables-tables.ensures.columns ∙ sym (ap (map (λ (table : TableAt). table.schema)) c.tables-tables.ensures.tables)) in
    let long = fit_long scans tables fit in
    let same = length-map c.in_ok-scans.scans.items (λ (columns : Bor Columns). columns.now) in
    let place = c.loop-place.place in
    let table = c.index-tables-place.result in
    let columns = c.index-columns.result.now.now in
    let column_is = at_map (λ (columns : Bor Columns). columns.now) c.in_ok-scans.scans.items place c.index-columns.result.now (omega (arith, long, same, c.loop-place-test.true))
    c.index-columns.ensures in
    subst (λ (p : PlaceColumns). IsTrue (has_columns (length table.schema.fields) p.columns.now)) (sym c.in_ok-filter.ensures.place)
    (fit_at scans tables place columns table fit c.loop-place-test.true column_is c.index-tables-place.is)

pub loop-place-preserved : goal.loop-place-preserved
loop-place-preserved g c =
    let said : Bor (Predicate ℕ) → Pred ℕ = λ part. pred_of part.now in
    let parts = map said c.in_ok-conjuncts.conjuncts.items in
    let from = c.args.range.start in
    let to = c.args.range.end in
    let scans = map (λ (columns : Bor Columns). columns.now) c.in_ok-scans.scans.items in
    let tables = c.tables-tables.result.now in
    let fit = fit_all (tree_of c.args.plan.now.plan) scans tables c.plan.ensures.typed.tree
    (c.in_ok-scans.ensures ∙ ap (λ (plan : Plan). scans_of (tree_of plan)) c.plan-2.ensures.plan)
    (c.tables-tables.ensures.columns ∙ sym (ap (map (λ (table : TableAt). table.schema)) c.tables-tables.ensures.tables)) in
    let long = fit_long scans tables fit in
    let same = length-map c.in_ok-scans.scans.items (λ (columns : Bor Columns). columns.now) in
    let place = c.loop-place.place in
    let table = c.index-tables-place.result in
    let columns = c.index-columns.result.now.now in
    let column_is = at_map (λ (columns : Bor Columns). columns.now) c.in_ok-scans.scans.items place c.index-columns.result.now (omega (arith, long, same, c.loop-place-test.true))
    c.index-columns.ensures in
    let first = c.loop-place.first in
    let list = c.in_ok-place_list.field-0 in
    let own = c.in_ok-filter.filter in
    let begin = c.if-place-eq0-2.from in
    let end = c.if-place-eq0.to in
    let batches = length table.batches in
    let width_is : c.given_width-width.result ≡ given_width columns (length table.schema.fields) =
    c.given_width-width.ensures ∙ ap (given_width columns) (c.len.ensures ∙ ap (λ (schema : Schema). length schema.fields) c.schema.ensures.schema) in
    let begin_is : begin ≡ begin_at parts from to place = elim c.if-place-eq0-2.branch [
      | then-place-eq0-2 w ↦ begin_first parts from to place begin (omega (arith, w.if-place-eq0-2.true)) w.from-is
      | else-place-eq0-2 w ↦ begin_other parts from to place begin (omega (arith, w.if-place-eq0-2.false)) w.from-is
    ] in
    let end_is : end ≡ end_at parts from to place table = elim c.if-place-eq0.branch [
      | then-place-eq0 w ↦ end_first parts from to place table end (omega (arith, w.if-place-eq0.true)) w.to-is
      | else-place-eq0 w ↦ end_other parts from to place table end (omega (arith, w.if-place-eq0.false)) (w.to-is ∙ w.rows-to.ensures.rows)
    ] in
    let numbers : list.numbers.items ≡ place_opened parts first columns (begin_at parts from to place) (end_at parts from to place table) table =
    c.in_ok-place_list.ensures.numbers
    ∙ ap (λ (p : PlaceColumns). judged_before (map said own.parts.items) p.first p.columns.now begin end table batches) c.in_ok-filter.ensures.place
    ∙ ap (λ (some : List (Pred ℕ)). judged_before some first columns begin end table batches) c.in_ok-filter.ensures.parts
    ∙ ap (λ (some : List (Bor (Predicate ℕ))). judged_before (filter (names_only (is_between first c.given_width-width.result)) (map said some)) first columns begin end table batches)
    c.as_slice.ensures.value
    ∙ ap (λ (width : ℕ). judged_before (filter (names_only (is_between first width)) parts) first columns begin end table batches) width_is
    ∙ ap (λ (n : ℕ). place_opened parts first columns n end table) begin_is
    ∙ ap (λ (n : ℕ). place_opened parts first columns (begin_at parts from to place) n table) end_is in
    let is_list = subst (λ (n : ℕ). IsListOf n (end_at parts from to place table) table list) begin_is
    (subst (λ (n : ℕ). IsListOf begin n table list) end_is c.in_ok-place_list.ensures.list) in
    let is = c.loop-place.invariant in
    let more = count_next parts from to tables place table c.loop-place-test.true c.index-tables-place.is in
    let told = c.in_ok-place_list.ensures.told in
    let enough = subst (λ (n : ℕ). length (batches_in n (end_at parts from to place table) table.batches) ≤ told.0) begin_is
    (subst (λ (n : ℕ). length (batches_in begin n table.batches) ≤ told.0) end_is told.1) in
    record {
      begun = subst (λ (n : ℕ). AreBegun parts from to scans tables (place + 1) n c.push.new.self.items)
          (sym (c.in_ok-first.ensures ∙ ap (λ (width : ℕ). first + width) width_is))
          (begun_more parts from to scans tables place first c.loop-place.lists.items c.push.new.self.items columns table list
          (omega (arith, long, c.loop-place-test.true)) c.loop-place-test.true column_is c.index-tables-place.is numbers is_list c.in_ok-place_list.ensures.kept
          c.in_ok-push.ensures.items is.begun);
      ready = c.in_ok-place_list.ensures.ready;
      watched = g.met.W.Watches.again _ _ _ is.watched c.place_list.ensures.watched;
      told = (is.told.0 + told.0, omega (arith, more, enough, is.told.1), g.met.W.Watches.told_again _ _ _ _ _ is.told.2 told.2);
    }

-- it ended at a place
pub returns-in_err-place_list-clause-watched : goal.returns-in_err-place_list-clause-watched
returns-in_err-place_list-clause-watched g c = g.met.W.Watches.again _ _ _ c.loop-place.invariant.watched c.in_err-place_list.ensures.watched

pub returns-clause-numbers : goal.returns-clause-numbers
returns-clause-numbers g c =
    let said : Bor (Predicate ℕ) → Pred ℕ = λ part. pred_of part.now in
    let parts = map said c.in_ok-conjuncts.conjuncts.items in
    let from = c.args.range.start in
    let to = c.args.range.end in
    let scans = map (λ (columns : Bor Columns). columns.now) c.in_ok-scans.scans.items in
    let tables = c.tables-tables.result.now in
    let fit = fit_all (tree_of c.args.plan.now.plan) scans tables c.plan.ensures.typed.tree
    (c.in_ok-scans.ensures ∙ ap (λ (plan : Plan). scans_of (tree_of plan)) c.plan-2.ensures.plan)
    (c.tables-tables.ensures.columns ∙ sym (ap (map (λ (table : TableAt). table.schema)) c.tables-tables.ensures.tables)) in
    let long = fit_long scans tables fit in
    let lists = c.loop-place.lists.items in
    let opened = begun_all parts from to scans tables c.loop-place.place c.loop-place.first lists (omega (arith, long, c.loop-place-test.false))
    (omega (arith, c.loop-place-test.false)) c.loop-place.invariant.begun in
    let some = subst (λ (tables : List TableAt). 0 < length tables) (sym c.tables-tables.ensures.tables) c.tables-tables.ensures.some in
    let tree = tree_of c.args.plan.now.plan in
    let wheres = where_parts tree in
    all_numbers parts from to scans tables lists some opened
    ∙ ap (λ (some : List (Pred ℕ)). first_numbers some from to scans tables ∷ further_numbers some scans tables)
    (c.in_ok-conjuncts.ensures ∙ ap (λ (plan : Plan). where_parts (tree_of plan)) c.plan.ensures.plan)
    ∙ ap (λ (some : List Columns). first_numbers wheres from to some tables ∷ further_numbers wheres some tables)
    (c.in_ok-scans.ensures ∙ ap (λ (plan : Plan). scans_of (tree_of plan)) c.plan-2.ensures.plan)
    ∙ ap (λ (some : List TableAt). first_numbers wheres from to (scans_of tree) some ∷ further_numbers wheres (scans_of tree) some) c.tables-tables.ensures.tables

pub returns-clause-lists : goal.returns-clause-lists
returns-clause-lists g c =
    let said : Bor (Predicate ℕ) → Pred ℕ = λ part. pred_of part.now in
    let parts = map said c.in_ok-conjuncts.conjuncts.items in
    let from = c.args.range.start in
    let to = c.args.range.end in
    let scans = map (λ (columns : Bor Columns). columns.now) c.in_ok-scans.scans.items in
    let tables = c.tables-tables.result.now in
    let fit = fit_all (tree_of c.args.plan.now.plan) scans tables c.plan.ensures.typed.tree
    (c.in_ok-scans.ensures ∙ ap (λ (plan : Plan). scans_of (tree_of plan)) c.plan-2.ensures.plan)
    (c.tables-tables.ensures.columns ∙ sym (ap (map (λ (table : TableAt). table.schema)) c.tables-tables.ensures.tables)) in
    let long = fit_long scans tables fit in
    let lists = c.loop-place.lists.items in
    let opened = begun_all parts from to scans tables c.loop-place.place c.loop-place.first lists (omega (arith, long, c.loop-place-test.false))
    (omega (arith, c.loop-place-test.false)) c.loop-place.invariant.begun in
    let some = subst (λ (tables : List TableAt). 0 < length tables) (sym c.tables-tables.ensures.tables) c.tables-tables.ensures.some in
    subst (λ (tables : List TableAt). AreLists from to tables lists) c.tables-tables.ensures.tables (all_lists parts from to scans tables lists some opened)

pub returns-clause-kept : goal.returns-clause-kept
returns-clause-kept g c =
    let said : Bor (Predicate ℕ) → Pred ℕ = λ part. pred_of part.now in
    let parts = map said c.in_ok-conjuncts.conjuncts.items in
    let from = c.args.range.start in
    let to = c.args.range.end in
    let scans = map (λ (columns : Bor Columns). columns.now) c.in_ok-scans.scans.items in
    let tables = c.tables-tables.result.now in
    let fit = fit_all (tree_of c.args.plan.now.plan) scans tables c.plan.ensures.typed.tree
    (c.in_ok-scans.ensures ∙ ap (λ (plan : Plan). scans_of (tree_of plan)) c.plan-2.ensures.plan)
    (c.tables-tables.ensures.columns ∙ sym (ap (map (λ (table : TableAt). table.schema)) c.tables-tables.ensures.tables)) in
    let long = fit_long scans tables fit in
    let lists = c.loop-place.lists.items in
    let opened = begun_all parts from to scans tables c.loop-place.place c.loop-place.first lists (omega (arith, long, c.loop-place-test.false))
    (omega (arith, c.loop-place-test.false)) c.loop-place.invariant.begun in
    subst (λ (tables : List TableAt). All (λ (table : TableAt). IsKept table (length (table_of table).rows)) tables) c.tables-tables.ensures.tables
    (kept_are parts from to 0 0 scans tables lists opened)

pub returns-clause-told : goal.returns-clause-told
returns-clause-told g c =
    let said : Bor (Predicate ℕ) → Pred ℕ = λ part. pred_of part.now in
    let parts = map said c.in_ok-conjuncts.conjuncts.items in
    let from = c.args.range.start in
    let to = c.args.range.end in
    let tables = c.tables-tables.result.now in
    let is = c.loop-place.invariant in
    let none = count_none parts from to tables c.loop-place.place (omega (arith, c.loop-place-test.false)) in
    let all = count_all parts from to tables ∙ ap (judged_count from to) c.tables-tables.ensures.tables in
    (is.told.0, omega (arith, none, all, is.told.1), is.told.2)
