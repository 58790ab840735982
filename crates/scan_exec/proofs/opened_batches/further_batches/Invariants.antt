use Rattle.std.proofs.Common.{◌≡◌, ◌++◌, map, drop}
use Rattle.batch_skipping.specs.declared.opened_batches.OpenedList.{OpenedList}
use Rattle.batch_skipping.specs.OpenedBatches.{numbered_batches}
use Rattle.scan_exec.proofs.opened_batches.further_batches.Given as goal

-- those of the places so far, and then those of the others
abbrev pub invariant-loop-place : goal.invariant-loop-place
invariant-loop-place l =
    l.batches.items ++ numbered_batches l.place (drop l.place (map (λ (list : OpenedList). list.numbers.items) l.lists))
    ≡ numbered_batches 1 (drop 1 (map (λ (list : OpenedList). list.numbers.items) l.lists))
