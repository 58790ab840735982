use Rattle.group_slots.specs.Adding.{AreAdded, lists_of}
use Rattle.group_slots.proofs.row_groups.add_all.Given as goal

abbrev pub invariant-loop-item : goal.invariant-loop-item
invariant-loop-item l = AreAdded l.items l.part.batch.now.columns l.part.rows.now l.part.groups.now l.found l.part.fed
    (lists_of l.initial.tallies) (lists_of l.tallies) l.item
