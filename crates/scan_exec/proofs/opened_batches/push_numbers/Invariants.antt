use Rattle.std.proofs.Common.{◌≡◌, ◌++◌, map, take}
use Rattle.scan_exec.proofs.opened_batches.push_numbers.Given as goal

abbrev pub invariant-loop-number : goal.invariant-loop-number
invariant-loop-number l = l.batches.items ≡ l.fn.batches.items ++ map (λ number. (l.place, number)) (take l.number-index l.numbers)
