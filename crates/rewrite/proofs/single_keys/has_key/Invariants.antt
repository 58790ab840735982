use Rattle.std.proofs.Common.{◌≡◌, drop}
use Rattle.std.specs.List.{list_any}
use Rattle.rewrite.specs.SingleKeys.{same_columns}
use Rattle.rewrite.proofs.single_keys.has_key.Given as goal

abbrev pub invariant-loop-other : goal.invariant-loop-other
invariant-loop-other l =
    let same = same_columns l.key in
    list_any same l.keys ≡ list_any same (drop l.other-index l.keys)
