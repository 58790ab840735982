use Rattle.std.proofs.Common.{◌≡◌, take}
use Rattle.rewrite.specs.SingleKeys.{single_keys}
use Rattle.rewrite.proofs.single_keys.single.Given as goal

abbrev pub invariant-loop-key : goal.invariant-loop-key
invariant-loop-key l = l.keys ≡ single_keys (take l.key-index l.on)
