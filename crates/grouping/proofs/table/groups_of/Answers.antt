use Rattle.std.proofs.Common.{map, sym, ◌∙◌, arith}
use Rattle.arrays.specs.Batch.{row_of}
use Rattle.group_slots.specs.TaggedValues.{value_tagged}
use Rattle.first_rows.specs.RowKeys.{key_of}
use Rattle.grouping.proofs.Knowing.{known_found}
use Rattle.grouping.proofs.OneColumn.{IsOnly, are_entry_keys, are_keys, are_texts, is_only}
use Rattle.grouping.proofs.table.groups_of.Goals as goal
use Rattle.grouping.proofs.table.groups_of.Goals.{After-index-columns-chosen}

-- the column is the one key
only : (c : After-index-columns-chosen) → IsOnly c.args.chosen.now.columns.now c.args.chosen.now.batch.now c.index-columns-chosen.result
only c =
    let chosen = c.args.chosen.now in
    is_only chosen.columns.now chosen.batch.now c.columns.result.now c.index-columns-chosen.result (omega (arith, c.if-chosen-ne1.false)) c.requires.there
    c.columns.ensures.columns c.index-columns-chosen.is c.columns.ensures.long

pub returns-then-chosen-ne1-clause-known : goal.returns-then-chosen-ne1-clause-known
returns-then-chosen-ne1-clause-known c =
    let chosen = c.args.chosen.now in
    known_found value_tagged chosen.columns.now (map key_of c.args.firsts.now.keys) (map key_of c.groups_unseen.new.firsts.keys)
    (map (row_of chosen.batch.now.columns) chosen.rows.now) c.args.known.now c.in_ok-groups.ensures.found c.requires.known

pub groups_of_numbers-requires-clause-keys : goal.groups_of_numbers-requires-clause-keys
groups_of_numbers-requires-clause-keys c =
    are_keys _ _ _ _ (only (goal.at.groups_of_numbers-requires-clause-keys c).After-index-columns-chosen)
    c.integer_slots.ensures.room c.integer_slots.ensures.cells

pub groups_of_entries-requires-clause-keys : goal.groups_of_entries-requires-clause-keys
groups_of_entries-requires-clause-keys c =
    are_entry_keys _ _ _ _ (only (goal.at.groups_of_entries-requires-clause-keys c).After-index-columns-chosen)
    c.entry_slots.ensures.room c.entry_slots.ensures.cells

pub groups_by-requires-clause-tagged : goal.groups_by-requires-clause-tagged
groups_by-requires-clause-tagged c =
    let tags = c.text_tags.result in
    are_texts _ _ c.index-columns-chosen.result c.in-Texts.cells tags.texts tags.first tags.rows
    (only (goal.at.groups_by-requires-clause-tagged c).After-index-columns-chosen)
    (sym c.layout.ensures.value ∙ c.in-Texts.is) c.text_tags.ensures.texts c.text_tags.ensures.first c.text_tags.ensures.rows

pub returns-in_ok-groups-in-Indices-clause-known : goal.returns-in_ok-groups-in-Indices-clause-known
returns-in_ok-groups-in-Indices-clause-known c =
    let chosen = c.args.chosen.now in
    known_found value_tagged chosen.columns.now (map key_of c.args.firsts.now.keys) (map key_of c.groups_of_entries.new.firsts.keys)
    (map (row_of chosen.batch.now.columns) chosen.rows.now) c.args.known.now c.in_ok-groups-in-Indices.ensures.found c.requires.known

pub returns-in_ok-groups-in_default-clause-known : goal.returns-in_ok-groups-in_default-clause-known
returns-in_ok-groups-in_default-clause-known c =
    let chosen = c.args.chosen.now in
    known_found value_tagged chosen.columns.now (map key_of c.args.firsts.now.keys) (map key_of c.groups_one_by_one.new.firsts.keys)
    (map (row_of chosen.batch.now.columns) chosen.rows.now) c.args.known.now c.in_ok-groups-in_default.ensures.found c.requires.known
