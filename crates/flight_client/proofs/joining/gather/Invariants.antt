use Rattle.std.proofs.Common.{◌≡◌, None}
use Rattle.std.specs.Vec.Iter.{into_iter_items}
use Rattle.flight_client.specs.inside.GatheredStreams.{gathered}
use Rattle.flight_client.specs.inside.TypedColumns.{FitRows}
use Rattle.flight_client.proofs.joining.gather.Given as goal

abbrev pub invariant-loop-stream : goal.invariant-loop-stream
invariant-loop-stream l = record {
  same : gathered l.rows (into_iter_items l.stream-iterator) ≡ gathered None l.fn.streams.items;
  fit : FitRows l.rows (into_iter_items l.stream-iterator);
}
