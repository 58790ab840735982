use Rattle.std.proofs.Common.{map, sym}
use Rattle.std.proofs.lemmas.Result.{on_ok_weaker}
use Rattle.arrays.specs.Batch.{row_of}
use Rattle.group_slots.specs.TaggedValues.{value_tagged}
use Rattle.first_rows.specs.RowKeys.{key_of}
use Rattle.grouping.proofs.Finding.{found_alone}
use Rattle.grouping.proofs.Knowing.{known_found}
use Rattle.grouping.proofs.coded_groups.place_by_codes.Goals as goal

pub returns-then-is_empty-clause-found : goal.returns-then-is_empty-clause-found
returns-then-is_empty-clause-found c =
    found_alone c.args.chosen.now.columns.now c.args.firsts.now.keys (map (row_of c.args.chosen.now.batch.now.columns) c.args.chosen.now.rows.now)
    (sym c.if-is_empty.ensures)

pub returns-clause-stay : goal.returns-clause-stay
returns-clause-stay c =
    let chosen = c.args.chosen.now in
    on_ok_weaker c.groups_by_codes.result
    (λ found entries known. known_found value_tagged chosen.columns.now (map key_of c.args.firsts.now.keys) (map key_of c.groups_by_codes.new.firsts.keys)
    (map (row_of chosen.batch.now.columns) chosen.rows.now) entries found known)
    c.groups_by_codes.ensures.found
