use Rattle.std.proofs.Common.{◌≡◌, ◌<◌, ℕ, get_or}
use Rattle.scan_base.specs.declared.value.Value.TheVariants.{Null}
use Rattle.coded_keys.specs.Keys.{key_at_place}
use Rattle.coded_keys.proofs.rows.KeyRows.are_alike.Given as goal

abbrev pub invariant-loop-part : goal.invariant-loop-part
invariant-loop-part l = (i : ℕ) → i < l.part → get_or (key_at_place l.self l.place) i Null ≡ get_or (key_at_place l.self l.other) i Null
