-- Groups of parts of the batches, and what merging those of the next part gives.
use Rattle.std.proofs.Common.{◌≡◌, ◌≤◌, ◌+◌, ◌-◌, ℕ, List, [], ◌∷◌, ◌++◌, length, take, Result, Ok, Err, refl, sym, ap, ◌∙◌, subst, arith}
use Rattle.std.specs.List.{flat_map}
use Rattle.std.specs.Result.{IfOk}
use Rattle.std.proofs.Math.Seq.{take-add, take-length}
use Rattle.std.proofs.lemmas.Grind.{flat_map-append}
use Rattle.std.proofs.lemmas.List.{length-append}
use Rattle.std.proofs.lemmas.List.Elements.{filter-append}
use Rattle.arrays.specs.Batch.{BatchAt, rows_of}
use Rattle.scan_base.specs.Limits.{most_rows}
use Rattle.scan_base.specs.declared.fault.Fault.{Fault}
use Rattle.table_versions.specs.Table.{Row}
use Rattle.grouping.specs.FedRows.{GroupsAt, HasMerged, Holds, IsAlike, IsNew}
use Rattle.row_sources.specs.Picking.{PickAt, holds}
use Rattle.fetch_workers.specs.Merging.{IsPartAt}
use Rattle.fetch_workers.specs.Parts.{batches_before}
use Rattle.fetch_workers.proofs.Parting.{before_next, none_before}
use Rattle.scan_exec.specs.GroupWork.{AreGroupsOf, GroupWorkAt, IsPartOf, PartAt, batches_between, part_at, passing, row_count_between}
use Rattle.scan_exec.proofs.Feeding.{begun_part, between_few, from_first, passing_few}

-- groups of the same batches, by the same, are alike
pub are_alike : (work : GroupWorkAt) (groups other : GroupsAt) (some rows : List Row) → AreGroupsOf work some groups → AreGroupsOf work rows other → IsAlike groups other
are_alike work groups other some rows mine theirs = record {
  batches = theirs.batches_are ∙ sym mine.batches_are;
  types = theirs.types_are ∙ sym mine.types_are;
  keys = theirs.keys_are ∙ sym mine.keys_are;
  items = theirs.items_are ∙ sym mine.items_are;
}

-- the rows before a batch, and those of the batches from there to another one, are the rows before that one
rows_join : (pick : PickAt) (from to : ℕ) (batches : List BatchAt) → from ≤ to →
    passing pick (flat_map rows_of (take to batches)) ≡ passing pick (flat_map rows_of (take from batches)) ++ passing pick (flat_map rows_of (batches_between from to batches))
rows_join pick from to batches ordered =
    let whole : to ≡ from + (to - from) = omega (arith, ordered) in
    ap (λ (n : ℕ). passing pick (flat_map rows_of (take n batches))) whole
    ∙ ap (λ (some : List BatchAt). passing pick (flat_map rows_of some)) (take-add from (to - from) batches)
    ∙ ap (passing pick) (flat_map-append rows_of (take from batches) (batches_between from to batches))
    ∙ filter-append (holds pick) (flat_map rows_of (take from batches)) (flat_map rows_of (batches_between from to batches))

module _ (work : GroupWorkAt) (parts number : ℕ) where
  -- how many batches stand before this part, and before the next one
  abbrev before : ℕ
  before = batches_before (length work.batches) parts number

  abbrev after : ℕ
  after = batches_before (length work.batches) parts (number + 1)

  -- the rows of the parts so far, and of this part
  abbrev so_far : List Row
  so_far = passing work.pick (flat_map rows_of (take before work.batches))

  abbrev here : List Row
  here = passing work.pick (flat_map rows_of (batches_between before after work.batches))

  -- together they are those before the next part
  both_are : passing work.pick (flat_map rows_of (take after work.batches)) ≡ so_far ++ here
  both_are = rows_join work.pick before after work.batches (before_next (length work.batches) parts number)

  -- groups of the parts so far and of this one have few enough rows together
  pub merge_few : (groups other : GroupsAt) → AreGroupsOf work so_far groups → AreGroupsOf work here other →
      length (flat_map rows_of work.batches) ≤ most_rows → groups.count + other.count ≤ most_rows
  merge_few groups other mine theirs few =
      let size = passing_few (holds work.pick) (flat_map rows_of (take after work.batches)) in
      let all = between_few 0 after work.batches in
      let whole = ap (λ (some : List BatchAt). length (flat_map rows_of some)) (from_first after work.batches) in
      omega (arith, whole, ap length both_are, length-append so_far here, size, all, few, mine.held.count, theirs.held.count)

  -- and with its groups merged after, they are those of one part more
  pub more_merged : (groups other next : GroupsAt) → AreGroupsOf work so_far groups → AreGroupsOf work here other → HasMerged groups other next →
      AreGroupsOf work (passing work.pick (flat_map rows_of (take after work.batches))) next
  more_merged groups other next mine theirs has = record {
    batches_are = has.alike.batches ∙ mine.batches_are;
    types_are = has.alike.types ∙ mine.types_are;
    keys_are = has.alike.keys ∙ mine.keys_are;
    items_are = has.alike.items ∙ mine.items_are;
    refused = has.refused;
    held = subst (Holds next) (sym both_are) (has.held so_far here mine.held theirs.held);
  }

-- the groups of the first part are those of the rows before the second
pub first_are : (work : GroupWorkAt) (parts : ℕ) (groups : GroupsAt) →
    AreGroupsOf work (passing work.pick (flat_map rows_of (batches_between (batches_before (length work.batches) parts 0) (batches_before (length work.batches) parts (0 + 1)) work.batches))) groups →
    AreGroupsOf work (passing work.pick (flat_map rows_of (take (batches_before (length work.batches) parts 1) work.batches))) groups
first_are work parts groups is =
    let end = batches_before (length work.batches) parts 1 in
    subst (λ (some : List BatchAt). AreGroupsOf work (passing work.pick (flat_map rows_of some)) groups) (from_first end work.batches)
    (subst (λ (n : ℕ). AreGroupsOf work (passing work.pick (flat_map rows_of (batches_between n end work.batches))) groups) (none_before (length work.batches) parts) is)

-- where each part was merged, they are those of all rows
pub all_are : (work : GroupWorkAt) (parts given : ℕ) (groups : GroupsAt) → given ≡ parts → batches_before (length work.batches) parts parts ≡ length work.batches →
    AreGroupsOf work (passing work.pick (flat_map rows_of (take (batches_before (length work.batches) parts given) work.batches))) groups →
    AreGroupsOf work (passing work.pick (flat_map rows_of work.batches)) groups
all_are work parts given groups end all is =
    subst (λ (some : List BatchAt). AreGroupsOf work (passing work.pick (flat_map rows_of some)) groups)
    (ap (λ (n : ℕ). take (batches_before (length work.batches) parts n) work.batches) end ∙ ap (λ (n : ℕ). take n work.batches) all ∙ take-length work.batches) is

no_batches : (batches : List BatchAt) → length batches ≡ 0 → [] ≡ batches
no_batches [] none = refl
no_batches (batch ∷ batches) none = absurd (omega (arith, none))

-- where there is no part, new groups are those of all rows
pub new_are : (work : GroupWorkAt) (parts : ℕ) (groups : GroupsAt) → parts ≡ 0 → batches_before (length work.batches) parts parts ≡ length work.batches →
    IsNew work.batches work.types work.keys work.items groups → AreGroupsOf work (passing work.pick (flat_map rows_of work.batches)) groups
new_are work parts groups none all new = record {
  batches_are = new.batches_are;
  types_are = new.types_are;
  keys_are = new.keys_are;
  items_are = new.items_are;
  refused = new.refused;
  held = subst (λ (some : List BatchAt). Holds groups (passing work.pick (flat_map rows_of some)))
      (no_batches work.batches (sym all ∙ ap (batches_before (length work.batches) parts) none ∙ none_before (length work.batches) parts)) new.held;
}

-- a part that is begun is that of its number
pub begun_at : (work : GroupWorkAt) (parts number from to : ℕ) (result : Result PartAt Fault) → from ≡ batches_before (length work.batches) parts number →
    to ≡ batches_before (length work.batches) parts (number + 1) → IfOk result (λ part. part ≡ part_at work from to (row_count_between from to work.batches)) → IsPartAt work parts number result
begun_at work parts number from to (Err fault) first last is = tt
begun_at work parts number from to (Ok part) first last is =
    subst (λ (n : ℕ). IsPartOf work n (batches_before (length work.batches) parts (number + 1)) part) first
    (subst (λ (n : ℕ). IsPartOf work from n part) last (begun_part work from to (row_count_between from to work.batches) part is))
