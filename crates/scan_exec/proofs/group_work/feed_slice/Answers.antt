use Rattle.std.proofs.Common.{◌<◌, ◌≤◌, ◌-◌, ℕ, Bool, List, All, length, sym, ap, ◌∙◌, subst, arith}
use Rattle.arrays.specs.Batch.{BatchAt, row_of}
use Rattle.row_sources.specs.Picking.{holds, pick_of}
use Rattle.row_sources.proofs.Selecting.{chosen_below}
use Rattle.grouping.specs.FedRows.{batch_at}
use Rattle.scan_exec.proofs.Feeding.{chosen_few, fed_unfiltered, none_seen}
use Rattle.scan_exec.proofs.group_work.feed_slice.Goals as goal

pub feed-requires-clause-within : goal.feed-requires-clause-within
feed-requires-clause-within c =
    let slice = c.args.feeding.now.slice in
    let batch = slice.batch.now in
    let test : ℕ → Bool = λ row. holds (pick_of c.args.feeding.now.picker.now) (row_of batch.columns row) in
    subst (λ (b : BatchAt). All (λ (row : ℕ). row < b.rows) c.select.new.selection) (sym c.requires.is)
    (subst (λ (rows : List ℕ). All (λ (row : ℕ). row < batch.rows) rows) (sym c.in_ok-select.ensures)
    (chosen_below test slice.from (slice.to - slice.from) batch.rows (omega (arith, c.requires.ordered, c.requires.within))))

pub feed-requires-clause-few : goal.feed-requires-clause-few
feed-requires-clause-few c ready =
    let slice = c.args.feeding.now.slice in
    omega (arith, ap length c.in_ok-select.ensures, chosen_few (pick_of c.args.feeding.now.picker.now) slice.batch.now slice.from slice.to, c.requires.few)

pub feed_span-requires-clause-within : goal.feed_span-requires-clause-within
feed_span-requires-clause-within c = subst (λ (batch : BatchAt). c.args.feeding.now.slice.to ≤ batch.rows) (sym c.requires.is) c.requires.within

pub feed_span-requires-clause-few : goal.feed_span-requires-clause-few
feed_span-requires-clause-few c ready = c.requires.few

pub returns-then-has_one_group : goal.returns-then-has_one_group
returns-then-has_one_group c =
    let feeding = c.args.feeding.now in
    fed_unfiltered (pick_of feeding.picker.now) feeding.slice (batch_at c.args.groups.now.batches feeding.number) c.args.groups.now c.feed_span.new.self c.feed_span.result
    (none_seen feeding.picker.now (sym c.is_empty.ensures ∙ c.if-is_empty.true)) c.requires.is c.requires.ready c.feed_span.ensures
