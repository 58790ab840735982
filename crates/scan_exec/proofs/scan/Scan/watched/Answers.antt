use Rattle.std.proofs.Common.{All, ◌≡◌, ◌<◌, ◌++◌, ◌∷◌, [], ℕ, true, false, List, length, map, drop, get_or, Option, None, ap, sym, ◌∙◌, subst, refl, arith, rules}
use Rattle.std.specs.Arc.{arc_value}
use Rattle.std.specs.List.{flat_map, list_any, range_with_len}
use Rattle.arrow_types.specs.declared.schema.Schema.{Schema}
use Rattle.arrays.specs.Batch.{rows_of}
use Rattle.std.proofs.lemmas.List.Elements.{All-nil, All-cons, All-head, All-tail}
use Rattle.table_versions.specs.KeptTables.{IsKept}
use Rattle.table_versions.specs.StoredTables.{TableAt, table_of}
use Rattle.table_versions.specs.Table.{Row, is_long_text}
use Rattle.typed_plan.specs.declared.plan.Output.{Output}
use Rattle.typed_plan.specs.declared.plan.Plan.{Plan}
use Rattle.typed_plan.specs.HeldTables.{tree_schemas}
use Rattle.typed_plan.specs.TypedPlans.{HasOutput, IsTyped, is_grouping, is_place}
use Rattle.typed_plan.specs.View.{BoundAt, plan_of, tree_of}
use Rattle.rewrite.specs.Laws.{SkippingKeepsRows}
use Rattle.batch_skipping.specs.declared.opened_batches.OpenedList.{OpenedList}
use Rattle.scan_exec.specs.Answering.{IsScan, answer_for, giving_at, scan_at}
use Rattle.row_sources.specs.BegunRows.{IsBegun}
use Rattle.row_sources.specs.Running.{RowsAt}
use Rattle.scan_exec.specs.Giving.{GivingAt}
use Rattle.row_sources.specs.Parts.{first_batches}
use Rattle.batch_skipping.specs.PlaceLists.{AreLists}
use Rattle.batch_skipping.specs.Narrow.{BeginsInFirst}
use Rattle.batch_skipping.specs.OpenedBatches.{batches_in, first_opened, further_opened, opened_numbers, numbered_batches, where_parts}
use Rattle.row_sources.specs.OpenedTables.{CanAll, narrow_all}
use Rattle.rewrite.specs.PrunedColumns.{IsPruned}
use Rattle.rewrite.specs.SameRows.{StandsFor}
use Rattle.scan_exec.specs.Scan.{IsBeginning}
use Rattle.scan_exec.proofs.Beginning.{begins_is, is_scan}
use Rattle.scan_exec.proofs.Hopeless.{holds}
use Rattle.scan_exec.proofs.NarrowLaw.{schemas_of}
use Rattle.scan_exec.proofs.NarrowScan.{AreKept, Laws, first_list, laws, lists_can, narrow_schemas, typed_fit}
use Rattle.scan_exec.proofs.OpenedLists.{numbers_of}
use Rattle.scan_exec.proofs.Outputs.{output_there}
use Rattle.scan_exec.proofs.PlanGives.{rows_law}
use Rattle.scan_exec.proofs.ShortGiven.{short_law}
use Rattle.scan_exec.proofs.scan.Scan.watched.Goals as goal

-- no text of a table is too long
abbrev IsShort : TableAt → Type 0
IsShort table = list_any (list_any is_long_text) (table_of table).rows ≡ false

-- tables that are kept have no text that is too long
kept_short : (tables : List TableAt) → AreKept tables → All IsShort tables
kept_short [] kept = All-nil IsShort
kept_short (table ∷ tables) kept =
    let is_kept : TableAt → Type 0 = λ t. IsKept t (length (table_of t).rows) in
    All-cons IsShort table tables (All-head is_kept table tables kept).sound.texts (kept_short tables (All-tail is_kept table tables kept))

-- the numbers of the first list
abbrev first_numbers_of : List (List ℕ) → List ℕ
first_numbers_of [] = []
first_numbers_of (numbers ∷ lists) = numbers

first_named : (lists : List OpenedList) (list : OpenedList) → 0 < length lists → first_list lists list ≡ list → first_numbers_of (numbers_of lists) ≡ list.numbers.items
first_named [] list more e = absurd (omega (arith, more))
first_named (one ∷ lists) list more e = ap (λ (l : OpenedList). l.numbers.items) e

-- there is one
lists_some : (lists : List OpenedList) (all : List (List ℕ)) (first : List ℕ) → numbers_of lists ≡ first ∷ all → 0 < length lists
lists_some [] all first e = cc
lists_some (one ∷ lists) all first e = omega arith

list_at : (lists : List OpenedList) (list : OpenedList) → list ≡ get_or lists 0 list → first_list lists list ≡ list
list_at [] list e = refl
list_at (one ∷ lists) list e = sym e

-- what is known of the plan and of the lists
module _ (old new : BoundAt) (from to : ℕ) (lists : List OpenedList) (list : OpenedList) (typed : IsTyped (plan_of old))
    (columns : tree_schemas (tree_of old.plan) ≡ schemas_of old.tables) (skipping : SkippingKeepsRows) (same : StandsFor new old) (kept : AreKept old.tables)
    (numbers : numbers_of lists ≡ opened_numbers old from to) (are : AreLists from to old.tables lists) (first : first_list lists list ≡ list) where
  abbrev bound : BoundAt
  bound = record { tables = narrow_all (numbers_of lists) old.tables; plan = new.plan; output = new.output; schema = new.schema }

  all_laws : Laws old from to bound list.from list.to
  all_laws = laws old new from to lists list typed.tree columns (typed_fit (tree_of old.plan) old.tables typed.tree columns) skipping same (holds (where_parts (tree_of old.plan))) kept numbers are first

  -- the batches that are opened: those of the further places, and then those of the first
  further_is : (pairs : List (ℕ × ℕ)) → pairs ≡ numbered_batches 1 (drop 1 (numbers_of lists)) → pairs ≡ further_opened old
  further_is pairs e = e ∙ ap (λ (some : List (List ℕ)). numbered_batches 1 (drop 1 some)) numbers

  all_pairs : (front pairs : List (ℕ × ℕ)) → front ≡ numbered_batches 1 (drop 1 (numbers_of lists)) →
      pairs ≡ front ++ map (λ number. (0, number)) list.numbers.items → pairs ≡ further_opened old ++ first_opened from to old
  all_pairs front pairs e f =
      let some = lists_some lists _ _ numbers in
      f ∙ ap (λ (some : List (ℕ × ℕ)). some ++ map (λ number. (0, number)) list.numbers.items) (further_is front e)
      ∙ ap (λ (ns : List ℕ). further_opened old ++ map (λ number. (0, number)) ns) (sym (first_named lists list some first) ∙ ap first_numbers_of numbers)

  -- what gives the rows of the new plan over these batches
  module _ (typed_new : IsTyped (plan_of new)) (plan : Plan) (tables : List TableAt) (rows : RowsAt) (plan_is : plan ≡ new.plan) (tables_are : tables ≡ narrow_all (numbers_of lists) old.tables)
      (begun : IsBegun (tree_of plan) tables list.from list.to rows) where
    begun_over : IsBegun (tree_of new.plan) bound.tables list.from list.to rows
    begun_over =
        subst (λ (some : Plan). IsBegun (tree_of some) bound.tables list.from list.to rows) plan_is
        (subst (λ (some : List TableAt). IsBegun (tree_of plan) some list.from list.to rows) tables_are begun)

    pub output_is : HasOutput new.output rows.types
    output_is = output_there bound list.from list.to typed_new rows begun_over

    module _ (output : Output) (giving : GivingAt) (schema : Schema) (front pairs : List (ℕ × ℕ)) (further : ℕ) (output_same : output ≡ new.output) (schema_is : schema ≡ new.schema)
        (answer : giving ≡ answer_for output rows) (front_is : front ≡ numbered_batches 1 (drop 1 (numbers_of lists)))
        (pairs_are : pairs ≡ front ++ map (λ number. (0, number)) list.numbers.items) (count : further ≡ length front) where
      giving_is : giving ≡ answer_for new.output rows
      giving_is = answer ∙ ap (λ (o : Output). answer_for o rows) output_same

      pub begins : IsBeginning old from to (scan_at schema giving pairs further 0 None)
      begins =
          subst (λ (s : Schema). IsBeginning old from to (scan_at s giving pairs further 0 None)) (sym (schema_is ∙ same.schema))
          (begins_is bound list.from list.to typed_new rows begun_over old from to giving pairs further giving_is (all_pairs front pairs front_is pairs_are)
          (count ∙ ap length (further_is front front_is)) same.schema all_laws.given)

      pub scans : IsScan giving pairs further 0
      scans =
          is_scan bound list.from list.to typed_new rows begun_over old from to giving pairs further giving_is (all_pairs front pairs front_is pairs_are)
          (count ∙ ap length (further_is front front_is)) all_laws.batches

-- the tables of the new plan are those of the old one
pub opened_tables-requires : goal.opened_tables-requires
opened_tables-requires g c =
    let tables = c.as_slice-3.ensures.value ∙ c.into_parts-tables.ensures.tables ∙ c.in_ok-plan.ensures.same.tables in
    subst (λ (ts : List TableAt). CanAll ts c.in_ok-lists.lists.items) (sym tables)
    (lists_can c.args.reading.from c.args.reading.to c.args.plan.tables c.in_ok-lists.lists.items c.in_ok-lists.ensures.lists)

-- the plan that runs is the rewritten one
pub watched-requires-clause-pruned : goal.watched-requires-clause-pruned
watched-requires-clause-pruned g c = λ schema.
    let parts = c.into_parts-tables.ensures in
    subst (λ (plan : Plan). IsPruned (record { tree = tree_of plan; output = c.into_parts-tables.result.2; schema = schema })) (sym parts.plan)
    (subst (λ (output : Output). IsPruned (record { tree = tree_of c.in_ok-plan.plan.plan; output = output; schema = schema })) (sym parts.output) c.in_ok-plan.ensures.pruned)

pub watched-requires-clause-schemas : goal.watched-requires-clause-schemas
watched-requires-clause-schemas g c =
    let parts = c.into_parts-tables in
    let lists = c.in_ok-lists.lists.items in
    let old = c.args.plan in
    let new = c.in_ok-plan.plan in
    let same = c.in_ok-plan.ensures.same in
    let tables = c.as_slice-3.ensures.value ∙ parts.ensures.tables ∙ same.tables in
    ap (λ (plan : Plan). tree_schemas (tree_of plan)) parts.ensures.plan ∙ parts.ensures.columns ∙ ap schemas_of same.tables
    ∙ sym (narrow_schemas old.tables lists (lists_can c.args.reading.from c.args.reading.to old.tables lists c.in_ok-lists.ensures.lists))
    ∙ ap schemas_of (sym (c.in_ok-tables.ensures ∙ ap (narrow_all (numbers_of lists)) tables))

pub watched-requires-clause-first : goal.watched-requires-clause-first
watched-requires-clause-first g c =
    let known = all_laws c.args.plan c.in_ok-plan.plan c.args.reading.from c.args.reading.to c.in_ok-lists.lists.items c.index-first.result.now c.plan-typed.ensures.typed c.tables-columns.ensures.columns c.skipping_keeps_rows.ensures c.in_ok-plan.ensures.same c.in_ok-lists.ensures.kept c.in_ok-lists.ensures.numbers c.in_ok-lists.ensures.lists (list_at c.in_ok-lists.lists.items c.index-first.result.now c.index-first.ensures) in
    let tables = c.in_ok-tables.ensures ∙ ap (narrow_all (numbers_of c.in_ok-lists.lists.items)) (c.as_slice-3.ensures.value ∙ c.into_parts-tables.ensures.tables ∙ c.in_ok-plan.ensures.same.tables) in
    subst (λ (ts : List TableAt). BeginsInFirst c.index-first.result.now.from (first_batches ts)) (sym tables) known.begins

pub watched-requires-clause-each : goal.watched-requires-clause-each
watched-requires-clause-each g c =
    let known = all_laws c.args.plan c.in_ok-plan.plan c.args.reading.from c.args.reading.to c.in_ok-lists.lists.items c.index-first.result.now c.plan-typed.ensures.typed c.tables-columns.ensures.columns c.skipping_keeps_rows.ensures c.in_ok-plan.ensures.same c.in_ok-lists.ensures.kept c.in_ok-lists.ensures.numbers c.in_ok-lists.ensures.lists (list_at c.in_ok-lists.lists.items c.index-first.result.now c.index-first.ensures) in
    let tables = c.in_ok-tables.ensures ∙ ap (narrow_all (numbers_of c.in_ok-lists.lists.items)) (c.as_slice-3.ensures.value ∙ c.into_parts-tables.ensures.tables ∙ c.in_ok-plan.ensures.same.tables) in
    subst (λ (ts : List TableAt). batches_in c.index-first.result.now.from c.index-first.result.now.to (first_batches ts) ≡ range_with_len 0 (length (first_batches ts))) (sym tables) known.each

pub answer_of-requires-clause-output : goal.answer_of-requires-clause-output
answer_of-requires-clause-output g c =
    subst (λ (output : Output). HasOutput output c.in_ok-source.source.rows.types) (sym c.into_parts-tables.ensures.output)
    (output_is c.args.plan c.in_ok-plan.plan c.args.reading.from c.args.reading.to c.in_ok-lists.lists.items c.index-first.result.now c.plan-typed.ensures.typed c.tables-columns.ensures.columns c.skipping_keeps_rows.ensures c.in_ok-plan.ensures.same c.in_ok-lists.ensures.kept c.in_ok-lists.ensures.numbers c.in_ok-lists.ensures.lists (list_at c.in_ok-lists.lists.items c.index-first.result.now c.index-first.ensures)
    c.into_parts-tables.ensures.typed c.into_parts-tables.result.1 c.in_ok-tables.tables.items c.in_ok-source.source.rows c.into_parts-tables.ensures.plan (c.in_ok-tables.ensures ∙ ap (narrow_all (numbers_of c.in_ok-lists.lists.items)) (c.as_slice-3.ensures.value ∙ c.into_parts-tables.ensures.tables ∙ c.in_ok-plan.ensures.same.tables)) c.in_ok-source.ensures.begun)

pub answer_of-requires-clause-few : goal.answer_of-requires-clause-few
answer_of-requires-clause-few g c grouped =
    let known = all_laws c.args.plan c.in_ok-plan.plan c.args.reading.from c.args.reading.to c.in_ok-lists.lists.items c.index-first.result.now c.plan-typed.ensures.typed c.tables-columns.ensures.columns c.skipping_keeps_rows.ensures c.in_ok-plan.ensures.same c.in_ok-lists.ensures.kept c.in_ok-lists.ensures.numbers c.in_ok-lists.ensures.lists (list_at c.in_ok-lists.lists.items c.index-first.result.now c.index-first.ensures) in
    let new = c.in_ok-plan.plan in
    let parts = c.into_parts-tables in
    let tables = c.in_ok-tables.ensures ∙ ap (narrow_all (numbers_of c.in_ok-lists.lists.items)) (c.as_slice-3.ensures.value ∙ parts.ensures.tables ∙ c.in_ok-plan.ensures.same.tables) in
    let place : is_place (tree_of parts.result.1) ≡ true =
    ap (λ (plan : Plan). is_place (tree_of plan)) parts.ensures.plan ∙ parts.ensures.typed.alone (ap is_grouping (sym parts.ensures.output) ∙ grouped) in
    omega (arith, c.in_ok-source.ensures.few place, ap (λ (ts : List TableAt). length (flat_map rows_of (first_batches ts))) tables, known.few)

pub invariant_of-result : goal.invariant_of-result
invariant_of-result g c = (
  c.in_ok-answer_of.ensures.giving,
  scans c.args.plan c.in_ok-plan.plan c.args.reading.from c.args.reading.to c.in_ok-lists.lists.items c.index-first.result.now c.plan-typed.ensures.typed c.tables-columns.ensures.columns c.skipping_keeps_rows.ensures c.in_ok-plan.ensures.same c.in_ok-lists.ensures.kept c.in_ok-lists.ensures.numbers c.in_ok-lists.ensures.lists (list_at c.in_ok-lists.lists.items c.index-first.result.now c.index-first.ensures)
      c.into_parts-tables.ensures.typed c.into_parts-tables.result.1 c.in_ok-tables.tables.items c.in_ok-source.source.rows c.into_parts-tables.ensures.plan (c.in_ok-tables.ensures ∙ ap (narrow_all (numbers_of c.in_ok-lists.lists.items)) (c.as_slice-3.ensures.value ∙ c.into_parts-tables.ensures.tables ∙ c.in_ok-plan.ensures.same.tables)) c.in_ok-source.ensures.begun
      c.into_parts-tables.result.2 (giving_at c.in_ok-answer_of.field-0) c.into_parts-tables.result.3 c.in_ok-batches.batches.items c.push_numbers.new.batches.items c.len-further.result c.into_parts-tables.ensures.output c.into_parts-tables.ensures.schema c.in_ok-answer_of.ensures.answer (c.in_ok-batches.ensures ∙ ap (λ (some : List OpenedList). numbered_batches 1 (drop 1 (numbers_of some))) c.as_slice.ensures.value) (c.in_ok-push_numbers.ensures ∙ ap (λ (ns : List ℕ). c.in_ok-batches.batches.items ++ map (λ number. (0, number)) ns) c.as_slice-2.ensures.value) (search rules),
)

pub returns-clause-begins : goal.returns-clause-begins
returns-clause-begins g c =
    begins c.args.plan c.in_ok-plan.plan c.args.reading.from c.args.reading.to c.in_ok-lists.lists.items c.index-first.result.now c.plan-typed.ensures.typed c.tables-columns.ensures.columns c.skipping_keeps_rows.ensures c.in_ok-plan.ensures.same c.in_ok-lists.ensures.kept c.in_ok-lists.ensures.numbers c.in_ok-lists.ensures.lists (list_at c.in_ok-lists.lists.items c.index-first.result.now c.index-first.ensures)
    c.into_parts-tables.ensures.typed c.into_parts-tables.result.1 c.in_ok-tables.tables.items c.in_ok-source.source.rows c.into_parts-tables.ensures.plan (c.in_ok-tables.ensures ∙ ap (narrow_all (numbers_of c.in_ok-lists.lists.items)) (c.as_slice-3.ensures.value ∙ c.into_parts-tables.ensures.tables ∙ c.in_ok-plan.ensures.same.tables)) c.in_ok-source.ensures.begun
    c.into_parts-tables.result.2 (giving_at c.in_ok-answer_of.field-0) (arc_value c.in_ok-new.field-0) c.in_ok-batches.batches.items c.push_numbers.new.batches.items c.len-further.result c.into_parts-tables.ensures.output (c.in_ok-new.ensures.ok ∙ c.into_parts-tables.ensures.schema) c.in_ok-answer_of.ensures.answer (c.in_ok-batches.ensures ∙ ap (λ (some : List OpenedList). numbered_batches 1 (drop 1 (numbers_of some))) c.as_slice.ensures.value) (c.in_ok-push_numbers.ensures ∙ ap (λ (ns : List ℕ). c.in_ok-batches.batches.items ++ map (λ number. (0, number)) ns) c.as_slice-2.ensures.value) (search rules)

pub returns-clause-rows : goal.returns-clause-rows
returns-clause-rows g c catalog held =
    ap (map (λ (given : Option ℕ × Row). given.1)) (returns-clause-begins g c).ahead
    ∙ rows_law catalog c.args.plan c.args.reading.from c.args.reading.to c.plan-typed.ensures.typed c.tables-columns.ensures.columns held

pub returns-clause-short : goal.returns-clause-short
returns-clause-short g c =
    ap (λ (ahead : List (Option ℕ × Row)). list_any (list_any is_long_text) (map (λ (given : Option ℕ × Row). given.1) ahead)) (returns-clause-begins g c).ahead
    ∙ short_law c.args.plan c.args.reading.from c.args.reading.to (kept_short c.args.plan.tables c.in_ok-lists.ensures.kept)

pub returns-in_err-answer_of-clause-watched : goal.returns-in_err-answer_of-clause-watched
returns-in_err-answer_of-clause-watched g c = g.met.W.Watches.again _ _ _ c.opened_lists.ensures.watched c.watched.ensures.watched

pub returns-clause-watched : goal.returns-clause-watched
returns-clause-watched g c = g.met.W.Watches.again _ _ _ c.opened_lists.ensures.watched c.watched.ensures.watched

pub returns-in_err-new-clause-watched : goal.returns-in_err-new-clause-watched
returns-in_err-new-clause-watched g c = g.met.W.Watches.again _ _ _ c.opened_lists.ensures.watched c.watched.ensures.watched
