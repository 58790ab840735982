use Rattle.std.proofs.Common.{◌≡◌, drop}
use Rattle.hash_join.specs.Pairs.{keys_join}
use Rattle.hash_join.specs.KeyRows.{row_key}
use Rattle.hash_join.proofs.key_row.KeyRow.joins.Given as goal

abbrev pub invariant-loop-number : goal.invariant-loop-number
invariant-loop-number l =
    keys_join (drop l.number (row_key l.self)) (drop l.number (row_key l.other)) ≡ keys_join (row_key l.self) (row_key l.other)
