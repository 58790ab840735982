-- What the keys and the tallies of groups answer.
use Rattle.std.specs.Prelude.{◌≡◌, ℕ, List, [], map, get_or, length}
use Rattle.std.specs.List.{range_with_len}
use Rattle.scan_base.specs.declared.value.Value.{Value}
use Rattle.table_versions.specs.Table.{Row}
use Rattle.typed_plan.specs.declared.plan.Aggregate.TheVariants.{Key}
use Rattle.typed_plan.specs.Plan.{answered, groups_by}
use Rattle.group_slots.specs.Tallies.{no_rows, item_value}
use Rattle.grouping.specs.FedRows.{GroupsAt, Holds}

-- what the item at a place gives of the group at a place
abbrev pub cell_at : GroupsAt → ℕ → ℕ → Value
cell_at groups group item =
    item_value (get_or groups.found group []) (get_or groups.items item (Key 0))
    (get_or (get_or groups.tallies item []) group no_rows)

-- the items of the group at a place
abbrev pub group_row : GroupsAt → ℕ → Row
group_row groups group = map (cell_at groups group) (range_with_len 0 (length groups.items))

-- the items of all groups
abbrev pub answer_rows : GroupsAt → List Row
answer_rows groups = map (group_row groups) (range_with_len 0 (length groups.found))

-- the groups of some rows answer what a plan that groups them says
abbrev pub HeldAnswersAreGroups : Type 0
HeldAnswersAreGroups = (groups : GroupsAt) (rows : List Row) → Holds groups rows →
    answer_rows groups
    ≡ map (λ group. map (answered group) groups.items) (groups_by groups.keys rows)
