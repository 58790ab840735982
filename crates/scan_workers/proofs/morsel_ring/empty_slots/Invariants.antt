use Rattle.std.proofs.Common.{◌≡◌, ◌≤◌, None, replicate, vec_len, vec_capacity}
use Rattle.scan_workers.proofs.morsel_ring.empty_slots.Given as goal

abbrev pub invariant-loop-index : goal.invariant-loop-index
invariant-loop-index g l =
    (l.slots.items ≡ replicate l._index None) × (vec_len l.slots ≡ l._index) × (l.count ≤ vec_capacity l.slots)
