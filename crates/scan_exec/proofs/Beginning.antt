-- A scan before its first batch.
use Rattle.std.proofs.Common.{◌≡◌, ℕ, ◌+◌, ◌-◌, ◌==◌, true, List, [], ◌∷◌, ◌++◌, length, map, take, drop, unwrap_or, slice_get, Option, Some, None, option_map, inl, refl, sym, ap, ◌∙◌, subst, arith, length-append, get_or, if◌then◌else◌}
use Rattle.std.specs.List.{flat_map, list_all, range_with_len, AllZip}
use Rattle.arrow_types.specs.declared.schema.Schema.{Schema}
use Rattle.std.proofs.lemmas.Option.{slice_get-map}
use Rattle.std.proofs.lemmas.List.Elements.{filter-append}
use Rattle.std.proofs.lemmas.Simd.{map-map}
use Rattle.arrow_types.specs.Answer.{answered_from, copied_type, LieBehind, LiesAs}
use Rattle.arrow_types.specs.declared.data_type.DataType.{DataType}
use Rattle.arrow_types.specs.declared.data_type.DataType.TheVariants.{Utf8}
use Rattle.table_versions.specs.Table.{Row}
use Rattle.typed_plan.specs.declared.plan.Columns.{Columns}
use Rattle.typed_plan.specs.declared.plan.Columns.TheVariants as columns
use Rattle.typed_plan.specs.declared.plan.Aggregate.{Aggregate}
use Rattle.typed_plan.specs.declared.plan.Aggregate.TheVariants.{Key, CountRows, Count, Sum}
use Rattle.typed_plan.specs.declared.plan.Output.{Output}
use Rattle.typed_plan.specs.declared.plan.Output.TheVariants.{Project, Groups}
use Rattle.typed_plan.specs.GroupedRows.{Group}
use Rattle.typed_plan.specs.JoinedRows.{rows_between}
use Rattle.arrays.specs.Batch.{rows_of}
use Rattle.typed_plan.specs.Plan.{answered, groups_by, output_rows}
use Rattle.typed_plan.specs.TypedPlans.{IsTyped, type_at, types_taken, tree_types, output_types, item_type, is_grouping}
use Rattle.typed_plan.specs.View.{BoundAt, plan_of, tree_of}
use Rattle.scan_exec.specs.Giving.{GivingAt}
use Rattle.scan_exec.specs.Answering.{IsScan, Rise, answer_for, renumbered, scan_at}
use Rattle.row_sources.specs.BegunRows.{IsBegun, tree_given}
use Rattle.row_sources.specs.Showing.{cells}
use Rattle.scan_exec.specs.GivenRows.{given_of}
use Rattle.row_sources.specs.Parts.{first_batches, further_rows, numbered_parts}
use Rattle.rewrite.specs.Places.{rows_over}
use Rattle.batch_skipping.specs.OpenedBatches.{batches_in, first_numbers, first_opened, further_numbers, further_opened, scans_of, where_parts}
use Rattle.scan_exec.specs.Morsels.{of_first}
use Rattle.row_sources.specs.Running.{RowsAt}
use Rattle.scan_exec.specs.Scan.{IsBeginning}
use Rattle.row_sources.proofs.Lying.{lies_copied, lies_at, lie_at}
use Rattle.scan_exec.proofs.PartScan.{firsts_rise, further_none}
use Rattle.scan_exec.proofs.PlanGives.{given_rows}
use Rattle.scan_exec.proofs.ScanGiven.{scan_given}

-- the type in which a column is copied
pub type_copied : (types : List DataType) (number : ℕ) → copied_type (type_at types number) ≡ type_at (map copied_type types) number
type_copied types number = of (slice_get types number) ∙ sym (ap (λ (t : Option DataType). unwrap_or t Utf8) (slice_get-map copied_type types number))
  where
    of : (t : Option DataType) → copied_type (unwrap_or t Utf8) ≡ unwrap_or (option_map copied_type t) Utf8
    of (Some t) = refl
    of None = refl

-- chosen columns lie as those of which they are chosen
columns_lie : (columns : Columns) (types lies : List DataType) → AllZip LiesAs types lies →
    AllZip LiesAs (types_taken columns types) (types_taken columns lies)
columns_lie columns.All types lies all = all
columns_lie (columns.These numbers) types lies all = lie_at types lies numbers all

-- what groups give is copied
items_lie : (keys : List ℕ) (items : List Aggregate) (types lies : List DataType) → AllZip LiesAs types lies →
    AllZip LiesAs (map (item_type keys types) items) (map copied_type (map (item_type keys lies) items))
items_lie keys [] types lies all = tt
items_lie keys (item ∷ items) types lies all = (one item, items_lie keys items types lies all)
  where
    one : (item : Aggregate) → LiesAs (item_type keys types item) (copied_type (item_type keys lies item))
    one (Key place) = lies_copied (type_at types (get_or keys place 0)) (type_at lies (get_or keys place 0)) (lies_at types lies (get_or keys place 0) all)
    one CountRows = inl refl
    one (Count column) = inl refl
    one (Sum column) = inl refl

-- all rows of a range, without the numbers of their batches
pub plain_given : (bound : BoundAt) (from to : ℕ) →
    map (λ (row : ℕ × Row). row.1) (tree_given (plan_of bound).tree bound.tables from to)
    ≡ rows_over (plan_of bound).tree (rows_between from to (flat_map rows_of (first_batches bound.tables)) ∷ further_rows bound.tables)
plain_given bound from to =
    let all : BoundAt = record bound { output = Project columns.All } in
    sym (ap (map (λ (given : Option ℕ × Row). given.1)) (scan_given all columns.All from to refl)
    ∙ map-map (λ (given : Option ℕ × Row). given.1) (λ (row : ℕ × Row). (Some row.0, row.1)) (tree_given (plan_of bound).tree bound.tables from to))
    ∙ given_rows all from to

-- what gives the result of a plan
module _ (bound : BoundAt) (from to : ℕ) (typed : IsTyped (plan_of bound)) (rows : RowsAt) (begun : IsBegun (plan_of bound).tree bound.tables from to rows) where
  types_is : (output : Output) → bound.output ≡ output → LieBehind bound.schema.fields (answer_for output rows).types
  types_is output e = record {
    types = output_types output (tree_types (plan_of bound).tree);
    answered = typed.types ∙ ap (λ (o : Output). answered_from 0 (output_types o (tree_types (plan_of bound).tree))) e;
    lie = lie output;
  }
    where
      lie : (output : Output) → AllZip LiesAs (output_types output (tree_types (plan_of bound).tree)) (answer_for output rows).types
      lie (Project columns) = columns_lie columns (tree_types (plan_of bound).tree) rows.types begun.types
      lie (Groups keys items) = items_lie keys items (tree_types (plan_of bound).tree) rows.types begun.types

  ahead_is : (output : Output) → bound.output ≡ output → (answer_for output rows).ahead ≡ given_of bound from to
  ahead_is (Project columns) e =
      let some : ℕ × Row → Option ℕ × Row = λ row. (Some row.0, row.1) in
      let show : ℕ × Row → ℕ × Row = λ row. (row.0, cells columns row.1) in
      map-map some show rows.ahead
      ∙ ap (map (λ (row : ℕ × Row). (Some row.0, cells columns row.1))) begun.ahead
      ∙ sym (scan_given bound columns from to e)
  ahead_is (Groups keys items) e =
      let plain = ap (map (λ (row : ℕ × Row). row.1)) begun.ahead ∙ plain_given bound from to in
      let none : Row → Option ℕ × Row = λ row. (None, row) in
      ap (λ (some : List Row). map (λ (group : Group). (None, map (answered group) items)) (groups_by keys some)) plain
      ∙ sym (map-map none (λ (group : Group). map (answered group) items) (groups_by keys
      (rows_over (plan_of bound).tree (rows_between from to (flat_map rows_of (first_batches bound.tables)) ∷ further_rows bound.tables))))
      ∙ sym (ap (λ (o : Output). given_as o) e)
    where
      given_as : Output → List (Option ℕ × Row)
      given_as output =
          let batches = first_batches bound.tables in
          let give = λ (some : List Row). output_rows output (rows_over (plan_of bound).tree (some ∷ further_rows bound.tables)) in
          if is_grouping output
          then map (λ row. (None, row)) (give (rows_between from to (flat_map rows_of batches)))
          else flat_map (λ (part : ℕ × List Row). map (λ row. (Some part.0, row)) (give part.1)) (numbered_parts from to batches)

  opened_is : (output : Output) → (answer_for output rows).opened ≡ []
  opened_is (Project columns) = begun.opened
  opened_is (Groups keys items) = begun.opened

  batches_is : (output : Output) → (answer_for output rows).batches ≡ batches_in from to (first_batches bound.tables)
  batches_is (Project columns) = begun.batches
  batches_is (Groups keys items) = begun.batches

  -- of a plan that gives the same over all batches, where these are the batches that it opens
  module _ (old : BoundAt) (begin end : ℕ) (giving : GivingAt) (batches : List (ℕ × ℕ)) (further : ℕ) (is : giving ≡ answer_for bound.output rows)
      (all : batches ≡ further_opened old ++ first_opened begin end old) (count : further ≡ length (further_opened old)) where
    firsts_are : drop further batches ≡ first_opened begin end old
    firsts_are = ap (drop further) all ∙ ap (λ (n : ℕ). drop n (further_opened old ++ first_opened begin end old)) count
        ∙ drop_front (further_opened old) (first_opened begin end old)
      where
        drop_front : (xs ys : List (ℕ × ℕ)) → drop (length xs) (xs ++ ys) ≡ ys
        drop_front [] ys = refl
        drop_front (x ∷ xs) ys = drop_front xs ys

    none : giving.opened ≡ []
    none = ap (λ (g : GivingAt). g.opened) is ∙ opened_is bound.output

    pub begins_is : bound.schema ≡ old.schema → map (renumbered (first_opened begin end old)) (given_of bound from to) ≡ given_of old begin end →
        IsBeginning old begin end (scan_at old.schema giving batches further 0 None)
    begins_is schema law = record {
      schema = refl;
      types = subst (λ (s : Schema). LieBehind s.fields giving.types) schema
          (subst (λ (g : GivingAt). LieBehind bound.schema.fields g.types) (sym is) (types_is bound.output refl));
      ahead = ap (λ (some : List (ℕ × ℕ)). map (renumbered some) giving.ahead) firsts_are
          ∙ ap (map (renumbered (first_opened begin end old))) (ap (λ (g : GivingAt). g.ahead) is ∙ ahead_is bound.output refl) ∙ law;
      batches = all;
      opened = ap (λ (n : ℕ). take n batches) none_more ∙ ap (take further) all
          ∙ ap (λ (n : ℕ). take n (further_opened old ++ first_opened begin end old)) count
          ∙ take_front (further_opened old) (first_opened begin end old);
      given = refl;
      refused = refl;
    }
      where
        none_more : further + length giving.opened ≡ further
        none_more = omega (arith, ap length none)

        take_front : (xs ys : List (ℕ × ℕ)) → take (length xs) (xs ++ ys) ≡ xs
        take_front [] ys = refl
        take_front (x ∷ xs) ys = ap (λ rest. x ∷ rest) (take_front xs ys)

    -- and what holds of the scan
    pub is_scan : batches_in from to (first_batches bound.tables) ≡ range_with_len 0 (length (first_opened begin end old)) → IsScan giving batches further 0
    is_scan ranged =
        let long = ap length all ∙ length-append (further_opened old) (first_opened begin end old) in
        let size : length (first_opened begin end old) ≡ length batches - further = omega (arith, long, count) in
        let numbers = first_numbers (where_parts (tree_of old.plan)) begin end (scans_of (tree_of old.plan)) old.tables in
        record {
          there = omega (arith, long, count);
          first = ap (λ (g : GivingAt). g.batches) is ∙ batches_is bound.output ∙ ranged ∙ ap (range_with_len 0) size;
          places = subst (λ (some : List (ℕ × ℕ)). list_all (λ (batch : ℕ × ℕ). batch.0 == 0) some ≡ true) (sym firsts_are)
              (all_first numbers);
          others = ap of_first all
              ∙ filter-append (λ (batch : ℕ × ℕ). batch.0 == 0) (further_opened old) (first_opened begin end old)
              ∙ ap (λ some. some ++ of_first (first_opened begin end old)) (further_none 0 (further_numbers (where_parts (tree_of old.plan)) (scans_of (tree_of old.plan)) old.tables))
              ∙ only_first numbers ∙ sym firsts_are;
          rising = subst (Rise 0) (sym (ap (map (λ (batch : ℕ × ℕ). batch.1)) firsts_are ∙ map-map (λ (batch : ℕ × ℕ). batch.1) (λ (number : ℕ). (0, number)) numbers ∙ map_same numbers))
              (firsts_rise (where_parts (tree_of old.plan)) begin end (scans_of (tree_of old.plan)) old.tables);
          front = ap (λ (opened : List ℕ). take (length opened) giving.batches) none ∙ sym none;
          few = omega arith;
        }
      where
        all_first : (numbers : List ℕ) → list_all (λ (batch : ℕ × ℕ). batch.0 == 0) (map (λ number. (0, number)) numbers) ≡ true
        all_first [] = refl
        all_first (number ∷ numbers) = all_first numbers

        only_first : (numbers : List ℕ) → of_first (map (λ number. (0, number)) numbers) ≡ map (λ number. (0, number)) numbers
        only_first [] = refl
        only_first (number ∷ numbers) = ap (λ rest. (0, number) ∷ rest) (only_first numbers)

        map_same : (numbers : List ℕ) → map (λ (number : ℕ). number) numbers ≡ numbers
        map_same [] = refl
        map_same (number ∷ numbers) = ap (λ rest. number ∷ rest) (map_same numbers)
