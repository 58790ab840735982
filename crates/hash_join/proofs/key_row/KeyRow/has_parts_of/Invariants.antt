use Rattle.std.proofs.Common.{◌≡◌, ◌<◌, ℕ, get_or}
use Rattle.scan_base.specs.declared.value.Value.TheVariants.{Null}
use Rattle.hash_join.specs.KeyRows.{key_beside, row_key}
use Rattle.hash_join.proofs.key_row.KeyRow.has_parts_of.Given as goal

abbrev pub invariant-loop-part : goal.invariant-loop-part
invariant-loop-part l = (i : ℕ) → i < l.part → get_or (row_key l.self) i Null ≡ get_or (key_beside l.self l.other) i Null
