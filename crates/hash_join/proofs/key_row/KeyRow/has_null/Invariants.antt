use Rattle.std.proofs.Common.{◌≡◌, drop}
use Rattle.std.specs.List.{list_any}
use Rattle.scan_base.specs.Value.{is_null}
use Rattle.hash_join.specs.KeyRows.{row_key}
use Rattle.hash_join.proofs.key_row.KeyRow.has_null.Given as goal

abbrev pub invariant-loop-number : goal.invariant-loop-number
invariant-loop-number l = list_any is_null (drop l.number (row_key l.self)) ≡ list_any is_null (row_key l.self)
