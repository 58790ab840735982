use Rattle.std.proofs.Common.{◌≡◌, ◌++◌, All}
use Rattle.std.specs.Global.{Vec}
use Rattle.std.proofs.lemmas.Result.{IfOk-weaker}
use Rattle.hash_join.specs.Pairs.{pairs_ahead}
use Rattle.hash_join.specs.declared.pair.Pair.{Pair}
use Rattle.join_batches.specs.Rows.{IsPair}
use Rattle.join_batches.proofs.There.{found_there}
use Rattle.join_batches.proofs.left_pairs.next_pairs.Goals as goal

pub returns-clause-there : goal.returns-clause-there
returns-clause-there c =
    let build = c.args.build.now in
    let batch = c.args.left.now.batch.now in
    let key = c.args.left.now.key.now in
    IfOk-weaker c.next.result
    (λ (pairs : Vec Pair). pairs.items ++ pairs_ahead build batch key c.next.new.probe ≡ pairs_ahead build batch key c.args.probe.now)
    (λ (pairs : Vec Pair). All (IsPair build.batches batch) pairs.items)
    (λ pairs e. found_there build batch key c.args.probe.now pairs.items (pairs_ahead build batch key c.next.new.probe) e)
    c.next.ensures.given
