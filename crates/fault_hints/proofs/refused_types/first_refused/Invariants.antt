use Rattle.std.proofs.Common.{◌≡◌, ◌-◌}
use Rattle.fault_hints.specs.RefusedTypes.{first_refused}
use Rattle.fault_hints.proofs.refused_types.first_refused.Given as goal

-- it is among those that are left
abbrev pub invariant-loop-place : goal.invariant-loop-place
invariant-loop-place l = first_refused l.vector 0 l.vector.count ≡ first_refused l.vector l.place (l.vector.count - l.place)
