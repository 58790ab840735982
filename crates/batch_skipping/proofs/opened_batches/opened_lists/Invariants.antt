use Rattle.std.proofs.Common.{◌≤◌, ◌+◌, ◌*◌, ℕ, drop, map}
use Rattle.scan_base.specs.View.{pred_of}
use Rattle.batch_skipping.proofs.Places.{AreBegun, count_from}
use Rattle.batch_skipping.proofs.opened_batches.opened_lists.Given as goal

-- the lists of the places before this one, of whose batches who watches was told
abbrev pub invariant-loop-place : goal.invariant-loop-place
invariant-loop-place g l =
    let parts = map (λ part. pred_of part.now) l.conjuncts.items in
    let from = l.fn.range.start in
    let to = l.fn.range.end in record {
      begun : AreBegun parts from to (map (λ columns. columns.now) l.scans.items) l.tables l.place l.first l.lists.items;
      ready : g.W.Watches.ready l.watch;
      watched : g.W.Watches.watched l.fn.watch l.watch;
      told : (count : ℕ) × (count_from parts from to 0 l.tables ≤ count + count_from parts from to l.place (drop l.place l.tables))
          × g.W.Watches.told count l.fn.watch l.watch;
    }
