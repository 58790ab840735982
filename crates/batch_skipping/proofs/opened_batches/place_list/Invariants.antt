use Rattle.std.proofs.Common.{◌≤◌, ◌-◌, ◌*◌, ℕ, map}
use Rattle.scan_base.specs.View.{pred_of}
use Rattle.batch_skipping.proofs.SoFar.{IsSoFar, read_before}
use Rattle.batch_skipping.proofs.opened_batches.place_list.Given as goal

-- the batches before this one, of which who watches was told
abbrev pub invariant-loop-place : goal.invariant-loop-place
invariant-loop-place g l = record {
  so_far : IsSoFar (map (λ part. pred_of part.now) l.filter.parts.items) l.filter.place.first l.filter.place.columns.now l.from l.to l.table l.place.index l.place.start l.list;
  ready : g.W.Watches.ready l.watch;
  watched : g.W.Watches.watched l.fn.watch l.watch;
  told : (count : ℕ) × (read_before l.from l.to l.table l.place.index ≤ count) × g.W.Watches.told count l.fn.watch l.watch;
}

abbrev pub decreases-loop-place : goal.decreases-loop-place
decreases-loop-place g l = l.end - l.place.start
