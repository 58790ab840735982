use Rattle.std.proofs.Common.{◌≡◌, drop}
use Rattle.version_cell.proofs.publisher.show.Given as goal

abbrev pub invariant-loop : goal.invariant-loop
invariant-loop g l =
    (goal.iterator-loop g).can_next l.iterator' × (goal.iterator-loop g).is_finite l.iterator'
    × (l.writer.desk.shown.value ≡ l.initial.writer.desk.shown.value) × (drop l.writer.behind l.writer.log.items ≡ drop l.initial.writer.behind l.initial.writer.log.items)
