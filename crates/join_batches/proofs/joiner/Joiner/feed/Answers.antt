use Rattle.std.proofs.Common.{List, ◌++◌, map, drop, ap, ◌∙◌}
use Rattle.scan_base.specs.declared.value.Value.{Value}
use Rattle.hash_join.specs.declared.pair.Pair.{Pair}
use Rattle.hash_join.specs.declared.build.Probe.{Probe}
use Rattle.hash_join.specs.Pairs.{pairs_ahead}
use Rattle.join_batches.specs.HeldRows.{joiner_of, sides_of}
use Rattle.join_batches.specs.Rows.{pair_row}
use Rattle.join_batches.proofs.Looping.{pairs_are_loops}
use Rattle.join_batches.proofs.joiner.Joiner.feed.Goals as goal

pub returns : goal.returns
returns c =
    let build = (sides_of c.self.inside).build in
    let batch = c.args.batch in
    let key = (sides_of c.self.inside).left.key.items in
    rw (← c.self.view_is)
    (ap (λ (ahead : List (List Value)). record (joiner_of c.self.inside) { ahead = ahead })
    (ap (λ (pairs : List Pair). map (pair_row build.batches batch) (drop 0 pairs ++ pairs_ahead build batch key c.new-self-inside.result)) c.clear.ensures.items
    ∙ ap (λ (probe : Probe). map (pair_row build.batches batch) (pairs_ahead build batch key probe)) c.new-self-inside.ensures
    ∙ pairs_are_loops build batch key))
