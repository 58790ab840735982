-- Rows that are grouped, and what feeding them gives.
use Rattle.std.specs.Prelude.{◌≡◌, ◌<◌, ℕ, ◌+◌, All, List, [], ◌++◌, length, get_or, nat_lt, IsTrue}
use Rattle.std.specs.Prelude.{Option, Some, None, Result, Ok, Err}
use Rattle.std.specs.List.{list_all}
use Rattle.arrow_types.specs.declared.data_type.DataType.{DataType}
use Rattle.arrays.specs.Batch.{BatchAt}
use Rattle.arrays.specs.TypedLayouts.{AreOf}
use Rattle.scan_base.specs.declared.fault.Fault.{Fault}
use Rattle.scan_base.specs.declared.fault.Fault.TheVariants.{OutOfMemory}
use Rattle.scan_base.specs.declared.value.Value.{Value}
use Rattle.table_versions.specs.Table.{Row}
use Rattle.typed_plan.specs.declared.plan.Aggregate.{Aggregate}
use Rattle.typed_plan.specs.declared.plan.Aggregate.TheVariants.{Key}
use Rattle.typed_plan.specs.TypedPlans.{has_item}
use Rattle.group_slots.specs.declared.tally.Tally.{Tally}
use Rattle.group_slots.specs.Tallies.{no_rows, tally_of}
use Rattle.grouping.specs.FoundKeys.{found_in, share}

-- The batches whose rows are grouped, the types of their columns, the numbers of those that are the
-- key, the items that are wanted of each group, the keys of the groups so far, for each item the
-- tally of each group, how many rows were fed, and what refused them.
pub record GroupsAt : Type 0 where
  pub batches : List BatchAt
  pub types : List DataType
  pub keys : List ℕ
  pub items : List Aggregate
  pub found : List (List Value)
  pub tallies : List (List Tally)
  pub count : ℕ
  pub refused : Option Fault

-- the batch of a number
abbrev pub batch_at : List BatchAt → ℕ → BatchAt
batch_at batches number = get_or batches number (record { columns = []; rows = 0 })

-- the columns of each batch are of these types
abbrev pub AreTyped : List DataType → List BatchAt → Type 0
AreTyped types batches = All (λ (batch : BatchAt). AreOf types batch.columns) batches

-- keys and items name columns that are there
pub record HasItems (types : List DataType) (keys : List ℕ) (items : List Aggregate) : Type 0 where
  pub keyed : IsTrue (list_all (λ key. nat_lt key (length types)) keys)
  pub typed : IsTrue (list_all (has_item (length keys) types) items)

-- the tallies of an item are those of the rows of each group
pub record AreTallied (keys : List ℕ) (found : List (List Value)) (rows : List Row)
    (item : Aggregate) (tallies : List Tally) : Type 0 where
  pub long : length tallies ≡ length found
  pub each : (group : ℕ) → group < length found →
      get_or tallies group no_rows ≡ tally_of item (share keys found rows group)

-- the groups are those of these rows
pub record Holds (groups : GroupsAt) (rows : List Row) : Type 0 where
  pub found : groups.found ≡ found_in groups.keys rows
  pub count : groups.count ≡ length rows
  pub many : length groups.tallies ≡ length groups.items
  pub tallied : (item : ℕ) → item < length groups.items →
      AreTallied groups.keys groups.found rows (get_or groups.items item (Key 0))
      (get_or groups.tallies item [])

-- what is grouped, and by what, is as it was
pub record IsAlike (before after : GroupsAt) : Type 0 where
  pub batches : after.batches ≡ before.batches
  pub types : after.types ≡ before.types
  pub keys : after.keys ≡ before.keys
  pub items : after.items ≡ before.items

-- the rows are fed after those before
pub record HasFed (before after : GroupsAt) (rows : List Row) : Type 0 where
  pub alike : IsAlike before after
  pub refused : after.refused ≡ None
  pub count : after.count ≡ before.count + length rows
  pub held : (earlier : List Row) → Holds before earlier → Holds after (earlier ++ rows)

-- These rows are fed after those before, or memory was refused. What refused the groups is answered
-- from then on.
abbrev pub Feeds : GroupsAt → Result (Unit {0}) Fault → GroupsAt → List Row → Type 0
Feeds before result after rows = going before.refused result
  where
    going : Option Fault → Result (Unit {0}) Fault → Type 0
    going (Some fault) result = (result ≡ Err fault) × (after ≡ before)
    going None (Ok _) = HasFed before after rows
    going None (Err fault) =
        (fault ≡ OutOfMemory) × (after.refused ≡ Some fault) × IsAlike before after

-- the rows of both are grouped, those of the other after the earlier ones
pub record HasMerged (before other after : GroupsAt) : Type 0 where
  pub alike : IsAlike before after
  pub refused : after.refused ≡ None
  pub count : after.count ≡ before.count + other.count
  pub held : (rows more : List Row) → Holds before rows → Holds other more →
      Holds after (rows ++ more)

-- The rows of both are grouped, or memory was refused. What refused either is answered, and from
-- then on.
abbrev pub Merges : GroupsAt → GroupsAt → Result (Unit {0}) Fault → GroupsAt → Type 0
Merges before other result after = going before.refused other.refused result
  where
    going : Option Fault → Option Fault → Result (Unit {0}) Fault → Type 0
    going (Some fault) _ result = (result ≡ Err fault) × (after ≡ before)
    going None (Some fault) result =
        (result ≡ Err fault) × (after.refused ≡ Some fault) × IsAlike before after
    going None None (Ok _) = HasMerged before other after
    going None None (Err fault) =
        (fault ≡ OutOfMemory) × (after.refused ≡ Some fault) × IsAlike before after

-- no row was fed
pub record IsNew (batches : List BatchAt) (types : List DataType) (keys : List ℕ)
    (items : List Aggregate) (groups : GroupsAt) : Type 0 where
  pub batches_are : groups.batches ≡ batches
  pub types_are : groups.types ≡ types
  pub keys_are : groups.keys ≡ keys
  pub items_are : groups.items ≡ items
  pub refused : groups.refused ≡ None
  pub count : groups.count ≡ 0
  pub held : Holds groups []
