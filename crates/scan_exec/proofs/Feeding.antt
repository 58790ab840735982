-- The rows of a part of the batches, fed slice by slice.
use Rattle.std.proofs.Common.{◌≡◌, ◌≤◌, ◌<◌, ℕ, suc, ◌+◌, ◌-◌, Bool, true, false, cond, List, [], ◌∷◌, ◌++◌, length, map, take, drop, get_or, Result, Ok, Err, Option, None, refl, sym, ap, ◌∙◌, subst, arith, append-nil, append_assoc, length-drop}
use Rattle.std.specs.Prelude.{nat_eq}
use Rattle.std.specs.List.{filter, flat_map, range_with_len}
use Rattle.std.specs.Result.{IfOk, OnOk}
use Rattle.std.proofs.Math.Seq.{take-length, take-suc}
use Rattle.std.proofs.lemmas.Grind.{flat_map-append}
use Rattle.std.proofs.lemmas.List.{map-append, length-append, length-take, get_or_default, get_or-drop, drop_more, take_all, take-append-drop}
use Rattle.std.proofs.lemmas.List.Elements.{filter-append}
use Rattle.std.proofs.lemmas.List.FromFn.{length-range_with_len, take-map-range_with_len}
use Rattle.kernels.proofs.PushedRows.{filter_more}
use Rattle.arrays.specs.Batch.{BatchAt, row_of, rows_of}
use Rattle.array_select.specs.Room.{most_batch_rows}
use borrow.Author.Tests.{ne_eqb}
use Rattle.scan_base.specs.Limits.{most_rows}
use Rattle.scan_base.specs.View.{pred_of}
use Rattle.scan_base.specs.declared.predicate.Predicate.{Predicate}
use Rattle.scan_base.specs.declared.fault.Fault.{Fault}
use Rattle.table_versions.specs.Table.{Row}
use Rattle.table_versions.proofs.Rowing.{length-rows_of}
use Rattle.grouping.specs.FedRows.{GroupsAt, Holds, HasFed, Feeds, IsNew, batch_at}
use Rattle.row_sources.specs.CollectedRows.{IsBatchOf}
use Rattle.row_sources.specs.declared.batch_slice.BatchSlice.{BatchSlice}
use Rattle.row_sources.specs.declared.picker.Picker.{Picker}
use Rattle.row_sources.specs.Picking.{PickAt, IsPick, chosen_rows, holds, pick_of, rows_of_part}
use Rattle.row_sources.proofs.Giving.{all_hold, filter-map}
use Rattle.row_sources.proofs.JoinSteps.{as_many}
use Rattle.scan_exec.specs.GroupWork.{AreGroupsOf, CanBeGrouped, GroupsOfAll, GroupsOfPart, GroupWorkAt, IsPartFed, IsPartOf, IsSamePart, PartAt, batches_between, part_at, passing, row_count_between, rows_so_far}

-- no more pass than there are
pub passing_few : {X : Type 0} (test : X → Bool) (xs : List X) → length (filter test xs) ≤ length xs
passing_few test [] = omega arith
passing_few test (x ∷ xs) = by (test x) (passing_few test xs)
  where
    by : (b : Bool) → length (filter test xs) ≤ length xs → length (cond b (x ∷ filter test xs) (filter test xs)) ≤ suc (length xs)
    by true few = omega (arith, few)
    by false few = omega (arith, few)

-- ---- a slice of a batch

-- the numbers of those rows of a batch, from one up to, not with, another, that the filters let through
abbrev chosen_in : PickAt → BatchAt → ℕ → ℕ → List ℕ
chosen_in pick batch from end = filter (λ row. holds pick (row_of batch.columns row)) (range_with_len from (end - from))

module _ (pick : PickAt) (batch : BatchAt) where
  -- those before one
  passing_before : (end : ℕ) → end ≤ batch.rows → passing pick (take end (rows_of batch)) ≡ map (row_of batch.columns) (chosen_in pick batch 0 end)
  passing_before end within =
      let whole : end ≡ end - 0 = omega arith in
      ap (passing pick) (take-map-range_with_len (row_of batch.columns) 0 batch.rows end within)
      ∙ ap (λ (n : ℕ). passing pick (map (row_of batch.columns) (range_with_len 0 n))) whole
      ∙ filter-map (holds pick) (row_of batch.columns) (range_with_len 0 (end - 0))

  -- and those of a slice after them
  passing_more : (from end : ℕ) → from ≤ end → end ≤ batch.rows →
      passing pick (take end (rows_of batch)) ≡ passing pick (take from (rows_of batch)) ++ map (row_of batch.columns) (chosen_in pick batch from end)
  passing_more from end ordered within =
      let test : ℕ → Bool = λ row. holds pick (row_of batch.columns row) in
      passing_before end within
      ∙ ap (map (row_of batch.columns)) (sym (filter_more test 0 from end (omega arith) ordered))
      ∙ map-append (row_of batch.columns) (chosen_in pick batch 0 from) (chosen_in pick batch from end)
      ∙ ap (λ (some : List Row). some ++ map (row_of batch.columns) (chosen_in pick batch from end)) (sym (passing_before from (omega (arith, ordered, within))))

  -- so many rows are chosen of a slice at most
  pub chosen_few : (from end : ℕ) → length (chosen_in pick batch from end) ≤ end - from
  chosen_few from end =
      omega (arith, passing_few (λ row. holds pick (row_of batch.columns row)) (range_with_len from (end - from)), length-range_with_len from (end - from))

-- no filter is seen where there is none
pub none_seen : (picker : Picker) → nat_eq picker.filters.len 0 ≡ true → (pick_of picker).filters ≡ []
none_seen picker none = by picker.filters.items (subst (λ (n : ℕ). nat_eq n 0 ≡ true) picker.filters.ok.0 none)
  where
    by : (filters : List (Predicate ℕ)) → nat_eq (length filters) 0 ≡ true → map pred_of filters ≡ []
    by [] none = refl
    by (filter ∷ filters) none = let some : nat_eq (length (filter ∷ filters)) 0 ≡ false = ne_eqb _ _ (λ (h : length (filter ∷ filters) ≡ 0). omega arith) in cc

-- where there is no filter, all rows of the slice are fed
pub fed_unfiltered : (pick : PickAt) (part : BatchSlice) (batch : BatchAt) (before after : GroupsAt) (result : Result (Unit {0}) Fault) → pick.filters ≡ [] → batch ≡ part.batch.now →
    before.refused ≡ None → Feeds before result after (map (row_of batch.columns) (rows_of_part part)) →
    OnOk result (HasFed before after (map (row_of part.batch.now.columns) (chosen_rows pick part)))
fed_unfiltered pick part batch before after (Err fault) open_all is none fed = tt
fed_unfiltered pick part batch before after (Ok done) open_all is none fed =
    let now : HasFed (record before { refused = None }) after (map (row_of batch.columns) (rows_of_part part)) =
    subst (λ (refused : Option Fault). Feeds (record before { refused = refused }) (Ok done) after (map (row_of batch.columns) (rows_of_part part))) none fed in
    let same : map (row_of batch.columns) (rows_of_part part) ≡ map (row_of part.batch.now.columns) (chosen_rows pick part) =
    ap (λ (b : BatchAt). map (row_of b.columns) (rows_of_part part)) is ∙ ap (map (row_of part.batch.now.columns)) (all_hold pick part open_all) in
    subst (HasFed before after) same
    (record {
      alike = record { batches = now.alike.batches; types = now.alike.types; keys = now.alike.keys; items = now.alike.items };
      refused = now.refused;
      count = now.count;
      held = λ earlier h. now.held earlier (record { found = h.found; count = h.count; many = h.many; tallied = h.tallied });
    })

-- ---- one batch more

-- the rows of a beginning of batches, and of the rest
rows_split : (n : ℕ) (batches : List BatchAt) → length (flat_map rows_of (take n batches)) + length (flat_map rows_of (drop n batches)) ≡ length (flat_map rows_of batches)
rows_split n batches =
    sym (length-append (flat_map rows_of (take n batches)) (flat_map rows_of (drop n batches)))
    ∙ ap length (sym (flat_map-append rows_of (take n batches) (drop n batches)))
    ∙ ap (λ (some : List BatchAt). length (flat_map rows_of some)) (take-append-drop n batches)

-- some of the batches have no more rows than all
pub between_few : (from to : ℕ) (batches : List BatchAt) → length (flat_map rows_of (batches_between from to batches)) ≤ length (flat_map rows_of batches)
between_few from to batches = omega (arith, rows_split from batches, rows_split (to - from) (drop from batches))

-- those from the first one on are a beginning
pub from_first : (n : ℕ) (batches : List BatchAt) → batches_between 0 n batches ≡ take n batches
from_first n batches = let whole : n - 0 ≡ n = omega arith in ap (λ (m : ℕ). take m batches) whole

module _ (batches : List BatchAt) (k : ℕ) (batch : BatchAt) (there : k < length batches) (is : batch ≡ get_or batches k batch) where
  -- it is the batch of its number
  is_at : batch_at batches k ≡ batch
  is_at = let blank : BatchAt = record { columns = []; rows = 0 } in get_or_default batches k blank batch there ∙ sym is

  -- the batches before it, with it
  batches_more : (from : ℕ) → from ≤ k → batches_between from (k + 1) batches ≡ batches_between from k batches ++ batch ∷ []
  batches_more from ordered =
      let next : k + 1 - from ≡ suc (k - from) = omega (arith, ordered) in
      let place : from + (k - from) ≡ k = omega (arith, ordered) in
      let within : k - from < length (drop from batches) = omega (arith, length-drop from batches, ordered, there) in
      ap (λ (n : ℕ). take n (drop from batches)) next
      ∙ take-suc (drop from batches) (k - from) batch within
      ∙ ap (λ (b : BatchAt). batches_between from k batches ++ b ∷ [])
      (get_or-drop from batches (k - from) batch ∙ ap (λ (n : ℕ). get_or batches n batch) place ∙ sym is)

  -- and their rows
  rows_more : (from : ℕ) → from ≤ k → flat_map rows_of (batches_between from (k + 1) batches) ≡ flat_map rows_of (batches_between from k batches) ++ rows_of batch
  rows_more from ordered =
      ap (flat_map rows_of) (batches_more from ordered)
      ∙ flat_map-append rows_of (batches_between from k batches) (batch ∷ [])
      ∙ ap (λ (some : List Row). flat_map rows_of (batches_between from k batches) ++ some) (append-nil (rows_of batch))

  -- so many rows they have
  counted_more : (from : ℕ) → from ≤ k → row_count_between from (k + 1) batches ≡ row_count_between from k batches + batch.rows
  counted_more from ordered =
      omega (arith, ap length (rows_more from ordered), length-append (flat_map rows_of (batches_between from k batches)) (rows_of batch), length-rows_of batch)

  -- and so many it has with those after it
  counted_on : (to : ℕ) → k < to → row_count_between k to batches ≡ batch.rows + row_count_between (k + 1) to batches
  counted_on to more =
      let next : to - k ≡ suc (to - (k + 1)) = omega (arith, more) in
      let first : drop k batches ≡ batch ∷ drop (k + 1) batches = drop_more batches k batch there ∙ ap (λ (b : BatchAt). b ∷ drop (k + 1) batches) (sym is) in
      let all : row_count_between k to batches ≡ length (rows_of batch ++ flat_map rows_of (batches_between (k + 1) to batches)) =
      ap (λ (n : ℕ). length (flat_map rows_of (take n (drop k batches)))) next
      ∙ ap (λ (some : List BatchAt). length (flat_map rows_of (take (suc (to - (k + 1))) some))) first in
      omega (arith, all, length-append (rows_of batch) (flat_map rows_of (batches_between (k + 1) to batches)), length-rows_of batch)

-- no batch has no row
pub none_counted : (from : ℕ) (batches : List BatchAt) → row_count_between from from batches ≡ 0
none_counted from batches = let none : from - from ≡ 0 = omega arith in rw none refl

-- ---- a slice more

-- the rows of whole batches are those before the first row of the next one
none_of_next : (from at : ℕ) (batches : List BatchAt) → rows_so_far from at 0 batches ≡ flat_map rows_of (batches_between from at batches)
none_of_next from at batches = append-nil (flat_map rows_of (batches_between from at batches))

-- groups that were fed the next rows are those of the rows so far
more_fed : (work : GroupWorkAt) (some more next : List Row) (groups after : GroupsAt) → next ≡ some ++ more → AreGroupsOf work some groups → HasFed groups after more → AreGroupsOf work next after
more_fed work some more next groups after is are has = record {
  batches_are = has.alike.batches ∙ are.batches_are;
  types_are = has.alike.types ∙ are.types_are;
  keys_are = has.alike.keys ∙ are.keys_are;
  items_are = has.alike.items ∙ are.items_are;
  refused = has.refused;
  held = subst (Holds after) (sym is) (has.held some are.held);
}

-- a row of the next batch is still to be fed
module _ (work : GroupWorkAt) (from at row to : ℕ) (groups : GroupsAt) (is : IsPartFed work from at row to groups) where
  abbrev rows_left : ℕ
  rows_left = row_count_between at to work.batches - row

  -- where no row is left, all batches were fed
  pub none_left : at ≡ to → rows_left ≡ 0
  none_left whole =
      let none : row_count_between at to work.batches ≡ 0 = ap (λ (n : ℕ). row_count_between at n work.batches) (sym whole) ∙ none_counted at work.batches in
      omega (arith, none)

  pub some_left : at < to → 0 < rows_left
  some_left more =
      let blank : BatchAt = record { columns = []; rows = 0 } in
      let there : at < length work.batches = omega (arith, more, is.there) in
      let here = get_or work.batches at blank in
      let same : here ≡ get_or work.batches at here = sym (get_or_default work.batches at here blank there) in
      omega (arith, counted_on work.batches at here there same to more, is.within more)

  -- and the other way round
  pub is_more : 0 < rows_left → at < to
  is_more some = grind (arith, some, none_left, is.ordered)

  pub is_whole : rows_left ≡ 0 → at ≡ to
  is_whole none = grind (arith, none, some_left, is.ordered)

  module _ (more : at < to) (batch : BatchAt) (has : batch ≡ get_or work.batches at batch) where
    next_there : at < length work.batches
    next_there = omega (arith, more, is.there)

    here : batch_at work.batches at ≡ batch
    here = is_at work.batches at batch next_there has

    next_of : IsBatchOf work.types batch
    next_of = subst (IsBatchOf work.types) (sym has) (is.can.batches at batch next_there)

    -- the next slice of a part can be fed
    pub next_number : at < length groups.batches
    next_number = omega (arith, next_there, ap length is.fed.batches_are)

    pub next_is : batch_at groups.batches at ≡ batch
    next_is = ap (λ (some : List BatchAt). batch_at some at) is.fed.batches_are ∙ here

    pub next_pick : IsPick (length batch.columns) work.pick
    next_pick = subst (λ (n : ℕ). IsPick n work.pick) (sym (as_many work.types batch.columns next_of.typed)) is.can.pick

    pub next_small : batch.rows ≤ most_batch_rows
    next_small = next_of.few

    pub next_row : row < batch.rows
    next_row = subst (λ (b : BatchAt). row < b.rows) here (is.within more)

    pub next_few : (end : ℕ) → end ≤ batch.rows → groups.count + (end - row) ≤ most_rows
    next_few end within =
        let passed = passing_few (holds work.pick) (rows_so_far from at row work.batches) in
        let long = length-append (flat_map rows_of (batches_between from at work.batches)) (take row (rows_of (batch_at work.batches at))) in
        let first = length-take row (rows_of (batch_at work.batches at)) in
        let all = between_few from (at + 1) work.batches in
        omega (arith, passed, long, first, all, counted_more work.batches at batch next_there has from is.begun, is.fed.held.count, is.can.few, next_row, within)

    -- so many rows are left before it and after it
    left_on : row_count_between at to work.batches ≡ batch.rows + row_count_between (at + 1) to work.batches
    left_on = counted_on work.batches at batch next_there has to more

    pub left_within : (end : ℕ) → row ≤ end → end ≤ batch.rows → rows_left ≡ (row_count_between at to work.batches - end) + (end - row)
    left_within end ordered within = omega (arith, ordered, within, left_on)

    pub left_whole : (end : ℕ) → end ≡ batch.rows → rows_left ≡ (row_count_between (at + 1) to work.batches - 0) + (end - row)
    left_whole end all = omega (arith, all, next_row, left_on)

    -- and then it was
    module _ (end : ℕ) (ordered : row ≤ end) (within : end ≤ batch.rows)
        (after : GroupsAt) (fed : HasFed groups after (map (row_of batch.columns) (chosen_in work.pick batch row end))) where
      slice_rows : passing work.pick (rows_so_far from at end work.batches) ≡ passing work.pick (rows_so_far from at row work.batches) ++ map (row_of batch.columns) (chosen_in work.pick batch row end)
      slice_rows =
          let before : List Row = flat_map rows_of (batches_between from at work.batches) in
          let split : (n : ℕ) → passing work.pick (rows_so_far from at n work.batches) ≡ passing work.pick before ++ passing work.pick (take n (rows_of batch)) =
          λ n. filter-append (holds work.pick) before (take n (rows_of (batch_at work.batches at)))
          ∙ ap (λ (b : BatchAt). passing work.pick before ++ passing work.pick (take n (rows_of b))) here in
          split end
          ∙ ap (λ (some : List Row). passing work.pick before ++ some) (passing_more work.pick batch row end ordered within)
          ∙ sym (append_assoc (passing work.pick before) (passing work.pick (take row (rows_of batch))) (map (row_of batch.columns) (chosen_in work.pick batch row end)))
          ∙ ap (λ (some : List Row). some ++ map (row_of batch.columns) (chosen_in work.pick batch row end)) (sym (split row))

      slice_fed : AreGroupsOf work (passing work.pick (rows_so_far from at end work.batches)) after
      slice_fed = more_fed work (passing work.pick (rows_so_far from at row work.batches)) _ _ groups after slice_rows is.fed fed

      -- the part stands after it, in the same batch
      pub fed_within : end < batch.rows → IsPartFed work from at end to after
      fed_within less = record {
        can = is.can;
        begun = is.begun;
        ordered = is.ordered;
        there = is.there;
        within = λ _. subst (λ (b : BatchAt). end < b.rows) (sym here) less;
        whole = λ e. absurd (omega (arith, e, more));
        fed = slice_fed;
      }

      -- or before the next one
      pub fed_whole : end ≡ batch.rows → IsPartFed work from (at + 1) 0 to after
      fed_whole all = record {
        can = is.can;
        begun = omega (arith, is.begun);
        ordered = omega (arith, more);
        there = is.there;
        within = λ further.
            let there : at + 1 < length work.batches = omega (arith, further, is.there) in
            (is.can.batches (at + 1) (record { columns = []; rows = 0 }) there).some;
        whole = λ _. refl;
        fed = subst (λ (some : List Row). AreGroupsOf work (passing work.pick some) after)
            (ap (λ (b : BatchAt). flat_map rows_of (batches_between from at work.batches) ++ take end (rows_of b)) here
            ∙ ap (λ (some : List Row). flat_map rows_of (batches_between from at work.batches) ++ some) (take_all end (rows_of batch) (omega (arith, all, length-rows_of batch)))
            ∙ sym (rows_more work.batches at batch next_there has from is.begun)
            ∙ sym (none_of_next from (at + 1) work.batches)) slice_fed;
      }

-- a part of which a slice was fed is the same
pub same_still : (first before after : PartAt) → IsSamePart first before → after ≡ record before { left = after.left } → after.left < before.left → IsSamePart first after
same_still first before after same is less = record {
  batches = ap (λ (p : PartAt). p.batches) is ∙ same.batches;
  types = ap (λ (p : PartAt). p.types) is ∙ same.types;
  keys = ap (λ (p : PartAt). p.keys) is ∙ same.keys;
  items = ap (λ (p : PartAt). p.items) is ∙ same.items;
  rows = ap (λ (p : PartAt). p.rows) is ∙ same.rows;
  left = omega (arith, same.left, less);
}

-- where all rows of a part were fed, its groups are those of what it is a part of
pub part_whole : (mine : GroupWorkAt) (begin at row end left : ℕ) (groups : GroupsAt) (part : PartAt) → IsPartFed mine begin at row end groups → part_at mine begin end left ≡ part → at ≡ end →
    (work : GroupWorkAt) (from to : ℕ) → IsPartOf work from to part → AreGroupsOf work (passing work.pick (flat_map rows_of (batches_between from to work.batches))) groups
part_whole mine begin at row end left groups part is seen whole work from to of =
    let rows : passing mine.pick (rows_so_far begin at row mine.batches) ≡ passing work.pick (flat_map rows_of (batches_between from to work.batches)) =
    ap (λ (n : ℕ). passing mine.pick (rows_so_far begin at n mine.batches)) (is.whole whole)
    ∙ ap (passing mine.pick) (none_of_next begin at mine.batches)
    ∙ ap (λ (n : ℕ). passing mine.pick (flat_map rows_of (batches_between begin n mine.batches))) whole ∙ ap (λ (p : PartAt). p.rows) seen ∙ of.rows in
    record {
      batches_are = is.fed.batches_are ∙ ap (λ (p : PartAt). p.batches) seen ∙ of.batches;
      types_are = is.fed.types_are ∙ ap (λ (p : PartAt). p.types) seen ∙ of.types;
      keys_are = is.fed.keys_are ∙ ap (λ (p : PartAt). p.keys) seen ∙ of.keys;
      items_are = is.fed.items_are ∙ ap (λ (p : PartAt). p.items) seen ∙ of.items;
      refused = is.fed.refused;
      held = subst (Holds groups) rows is.fed.held;
    }

-- a part that is begun
pub begun_part : (work : GroupWorkAt) (from to left : ℕ) (part : PartAt) → part ≡ part_at work from to left → IsPartOf work from to part
begun_part work from to left part is = subst (IsPartOf work from to) (sym is) (record { batches = refl; types = refl; keys = refl; items = refl; rows = refl })

-- groups of no row are those of a part of which no row was fed
pub none_yet : (work : GroupWorkAt) (from to : ℕ) (new : GroupsAt) → CanBeGrouped work → from ≤ to → to ≤ length work.batches → IsNew work.batches work.types work.keys work.items new →
    IsPartFed work from from 0 to new
none_yet work from to new can ordered there is =
    let none : from - from ≡ 0 = omega arith in
    record {
      can = can;
      begun = omega arith;
      ordered = ordered;
      there = there;
      within = λ some. (can.batches from (record { columns = []; rows = 0 }) (omega (arith, some, there))).some;
      whole = λ _. refl;
      fed = rw none (record {
        batches_are = is.batches_are;
        types_are = is.types_are;
        keys_are = is.keys_are;
        items_are = is.items_are;
        refused = is.refused;
        held = is.held;
      });
    }

-- the part of all batches has all rows
pub whole_part : (work : GroupWorkAt) (to : ℕ) (result : Result GroupsAt Fault) → to ≡ length work.batches → GroupsOfPart work 0 to result → GroupsOfAll work result
whole_part work to result last is =
    subst (λ (some : List BatchAt). IfOk result (AreGroupsOf work (passing work.pick (flat_map rows_of some))))
    (from_first (length work.batches) work.batches ∙ take-length work.batches)
    (subst (λ (n : ℕ). GroupsOfPart work 0 n result) last is)
