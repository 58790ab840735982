use Rattle.std.proofs.Common.{ℕ, List, take, sym, subst}
use Rattle.std.proofs.lemmas.List.{take_more}
use Rattle.scan_exec.specs.DistinctItems.{KeyedBy}
use Rattle.scan_exec.proofs.distinct_keys.DistinctKeys.of.Goals as goal

pub loop-key-preserved : goal.loop-key-preserved
loop-key-preserved c =
    let i = c.loop-key.key-index in
    let keys = c.args.keys.now in
    subst (λ (all : List ℕ). KeyedBy all c.push.new.self.columns.items c.push.new.self.places.items)
    (sym (take_more keys i 0 c.loop-key-test.true)) (c.in_ok-push.ensures (take i keys) c.loop-key.invariant)
