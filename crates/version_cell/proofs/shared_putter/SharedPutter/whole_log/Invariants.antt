use Rattle.std.proofs.Common.{◌≡◌}
use Rattle.version_cell.proofs.shared_putter.SharedPutter.whole_log.Given as goal

abbrev pub invariant-loop : goal.invariant-loop
invariant-loop g l =
    (goal.iterator-loop g).can_next l.iterator' × (goal.iterator-loop g).is_finite l.iterator'
    × (l.all ≡ l.initial.all)
