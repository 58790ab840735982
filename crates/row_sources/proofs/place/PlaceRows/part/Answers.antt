use Rattle.row_sources.proofs.PartPlace.{part_each, part_first, part_made, part_ordered, part_there, part_within}
use Rattle.row_sources.proofs.place.PlaceRows.part.Goals as goal

pub begin_in-from-requires-clause-there : goal.begin_in-from-requires-clause-there
begin_in-from-requires-clause-there c = part_there c.args.self.now.table c.args.self.now.cursor c.requires.placed c.args.number c.requires.there

pub end_in-to-requires-clause-there : goal.end_in-to-requires-clause-there
end_in-to-requires-clause-there c = part_there c.args.self.now.table c.args.self.now.cursor c.requires.placed c.args.number c.requires.there

pub only-requires : goal.only-requires
only-requires c = part_there c.args.self.now.table c.args.self.now.cursor c.requires.placed c.args.number c.requires.there

pub new-cursor-requires-clause-ordered : goal.new-cursor-requires-clause-ordered
new-cursor-requires-clause-ordered c =
    part_ordered c.args.self.now.table c.args.self.now.cursor c.requires.placed c.args.number c.requires.there c.in_ok-table.table c.in_ok-table.ensures
    c.begin_in-from.result c.end_in-to.result c.begin_in-from.ensures c.end_in-to.ensures

pub new-cursor-requires-clause-within : goal.new-cursor-requires-clause-within
new-cursor-requires-clause-within c = λ _.
    part_within c.args.self.now.table c.args.self.now.cursor c.requires.placed c.args.number c.requires.there c.in_ok-table.table c.in_ok-table.ensures
    c.begin_in-from.result c.end_in-to.result c.begin_in-from.ensures c.end_in-to.ensures

pub new-cursor-requires-clause-first : goal.new-cursor-requires-clause-first
new-cursor-requires-clause-first c =
    part_first c.args.self.now.table c.args.self.now.cursor c.requires.placed c.args.number c.requires.there c.in_ok-table.table c.in_ok-table.ensures
    c.begin_in-from.result c.end_in-to.result c.begin_in-from.ensures c.end_in-to.ensures

pub new-cursor-requires-clause-each : goal.new-cursor-requires-clause-each
new-cursor-requires-clause-each c =
    part_each c.args.self.now.table c.args.self.now.cursor c.requires.placed c.args.number c.requires.there c.in_ok-table.table c.in_ok-table.ensures
    c.begin_in-from.result c.end_in-to.result c.begin_in-from.ensures c.end_in-to.ensures

pub returns-clause-part : goal.returns-clause-part
returns-clause-part c =
    part_made c.args.self.now.table c.args.self.now.cursor c.requires.placed c.args.number c.requires.there c.in_ok-table.table c.in_ok-table.ensures
    c.begin_in-from.result c.end_in-to.result c.begin_in-from.ensures c.end_in-to.ensures c.requires.unopened c.new-cursor.result c.new-cursor.ensures.begins
