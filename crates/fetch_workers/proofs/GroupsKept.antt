-- That a part is that of a number can be shown in one way at most.
use Rattle.std.proofs.Common.{◌≡◌, ℕ, max, min, List, length, Result, Ok, Err, arith}
use Rattle.std.specs.Coded.{Coded-set, coded_ℕ, coded_list}
use Rattle.std.proofs.Math.Logic.{∥∥₁_elim}
use Rattle.arrow_types.specs.declared.data_type.DataType.{DataType}
use Rattle.arrow_types.specs.contracts.data_type.DataType as data_type
use Rattle.arrays.specs.Batch.{BatchAt}
use Rattle.arrays.specs.contracts.batch.Batch as batch
use Rattle.scan_base.specs.declared.fault.Fault.{Fault}
use Rattle.scan_base.specs.contracts.value.Value as value
use Rattle.table_versions.specs.Table.{Row}
use Rattle.typed_plan.specs.declared.plan.Aggregate.{Aggregate}
use Rattle.typed_plan.specs.contracts.plan.Aggregate as aggregate
use Rattle.fetch_workers.specs.Merging.{CanMerge, IsPartAt}
use Rattle.fetch_workers.proofs.Parting.{all_before}
use Rattle.scan_exec.specs.GroupWork.{CanBeGrouped, GroupWorkAt, IsPartOf, PartAt}

places_equal : (xs ys : List ℕ) → IsProp (xs ≡ ys)
places_equal = Coded-set (coded_list coded_ℕ)

batches_equal : (xs ys : List BatchAt) → IsProp (xs ≡ ys)
batches_equal = Coded-set (coded_list batch.the_row.coded)

types_equal : (xs ys : List DataType) → IsProp (xs ≡ ys)
types_equal = Coded-set (coded_list data_type.the_row.coded)

items_equal : (xs ys : List Aggregate) → IsProp (xs ≡ ys)
items_equal = Coded-set (coded_list aggregate.the_row.coded)

rows_equal : (xs ys : List Row) → IsProp (xs ≡ ys)
rows_equal = Coded-set (coded_list (coded_list value.the_row.coded))

IsPartOf-prop : (work : GroupWorkAt) (from to : ℕ) (part : PartAt) → IsProp (IsPartOf work from to part)
IsPartOf-prop work from to part = hlevel (batches_equal, types_equal, places_equal, items_equal, rows_equal)

-- so what is kept of it is what it was
part_kept : (work : GroupWorkAt) (parts number : ℕ) (answer : Result PartAt Fault) → ∥ IsPartAt work parts number answer ∥₁ → IsPartAt work parts number answer
part_kept work parts number (Ok part) is = ∥∥₁_elim is (IsPartOf-prop work _ _ part) (λ x. x)
part_kept work parts number (Err fault) is = tt

-- so the groups of each part can be merged
pub can_merge : (work : GroupWorkAt) (parts workers : ℕ) → CanBeGrouped work → parts ≡ min (length work.batches) (max 1 workers) →
    CanMerge work (λ number answer. ∥ IsPartAt work parts number answer ∥₁) parts
can_merge work parts workers can count = record {
  can = can;
  all = all_before (length work.batches) parts (λ some. omega (arith, some, count));
  each = part_kept work parts;
}
