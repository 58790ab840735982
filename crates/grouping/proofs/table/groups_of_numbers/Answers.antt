use Rattle.std.proofs.Common.{map}
use Rattle.arrays.specs.Batch.{row_of}
use Rattle.group_slots.specs.TaggedValues.{value_tagged}
use Rattle.first_rows.specs.RowKeys.{key_of}
use Rattle.grouping.proofs.Knowing.{known_found}
use Rattle.grouping.proofs.table.groups_of_numbers.Goals as goal

pub returns-in_ok-groups-in-UInt64-clause-known : goal.returns-in_ok-groups-in-UInt64-clause-known
returns-in_ok-groups-in-UInt64-clause-known c =
    let chosen = c.args.chosen.now in
    known_found value_tagged chosen.columns.now (map key_of c.args.firsts.now.keys) (map key_of c.groups_one_by_one.new.firsts.keys)
    (map (row_of chosen.batch.now.columns) chosen.rows.now) c.args.known.now c.in_ok-groups-in-UInt64.ensures.found c.requires.known
