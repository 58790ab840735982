-- Inside: groups of each part of the batches, which can be merged.
use Rattle.std.specs.Prelude.{◌≡◌, ◌≤◌, ◌<◌, ℕ, ◌+◌, length, Option, Some, None, Result, Ok, IfOk}
use Rattle.scan_base.specs.declared.fault.Fault.{Fault}
use Rattle.grouping.specs.FedRows.{GroupsAt}
use Rattle.fetch_workers.specs.Parts.{batches_before}
use Rattle.scan_exec.specs.GroupWork.{CanBeGrouped, GroupWorkAt, GroupsOfPart, IsPartOf, PartAt}

-- the part of a number, of so many parts, unless memory was refused
abbrev pub IsPartAt : GroupWorkAt → ℕ → ℕ → Result PartAt Fault → Type 0
IsPartAt work parts number result =
    let before = batches_before (length work.batches) parts in
    IfOk result (IsPartOf work (before number) (before (number + 1)))

-- the groups of the part of a number, of so many parts
abbrev pub GroupsOfPartAt : GroupWorkAt → ℕ → ℕ → Result GroupsAt Fault → Type 0
GroupsOfPartAt work parts number result =
    let before = batches_before (length work.batches) parts in
    GroupsOfPart work (before number) (before (number + 1)) result

-- the parts are what is read, and have all batches
pub record CanMerge (work : GroupWorkAt) (right : ℕ → Result PartAt Fault → Type 0)
    (parts : ℕ) : Type 0 where
  pub can : CanBeGrouped work
  pub all : batches_before (length work.batches) parts parts ≡ length work.batches
  pub each : (number : ℕ) (answer : Result PartAt Fault) → right number answer →
      IsPartAt work parts number answer

-- the part that is answered next, of so many, or none after the last one
abbrev pub IsNextPart : (right : ℕ → Result PartAt Fault → Type 0) → ℕ → ℕ → ℕ →
    Option PartAt → Type 0
IsNextPart right parts given now (Some part) =
    right given (Ok part) × (given < parts) × (now ≡ given + 1)
IsNextPart right parts given now None = (parts ≤ given) × (now ≡ given)

-- the groups of the part that is answered next, of so many, or none after the last one
abbrev pub AreNextGroups : GroupWorkAt → ℕ → ℕ → ℕ → Option GroupsAt → Type 0
AreNextGroups work parts given now (Some groups) =
    GroupsOfPartAt work parts given (Ok groups) × (given < parts) × (now ≡ given + 1)
AreNextGroups work parts given now None = (parts ≤ given) × (now ≡ given)
