use Rattle.std.proofs.Common.{◌≡◌, map, take, not}
use Rattle.scan_base.specs.Value.{is_null}
use Rattle.array_select.specs.inside.GatheredMany.{values_at}
use Rattle.array_select.proofs.many_places.SlotPlaces.gather_validity.Given as goal

abbrev pub invariant-loop-number : goal.invariant-loop-number
invariant-loop-number l = l.bits ≡ map (λ value. not (is_null value)) (take l.number (values_at l.self))
