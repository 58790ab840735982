use Rattle.std.proofs.Common.{◌≡◌, drop}
use Rattle.hash_join.specs.Hashes.{parts_hash}
use Rattle.hash_join.specs.KeyRows.{row_key}
use Rattle.hash_join.proofs.key_row.KeyRow.hash_from.Given as goal

abbrev pub invariant-loop-number : goal.invariant-loop-number
invariant-loop-number l = parts_hash l.fn.begun l.hasher (drop l.number (row_key l.self)) ≡ parts_hash l.fn.begun l.fn.begun (row_key l.self)
