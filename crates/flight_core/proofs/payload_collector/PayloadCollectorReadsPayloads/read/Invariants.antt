use Rattle.std.proofs.Common.{◌≡◌, None}
use Rattle.table_versions.specs.Table.{Table}
use Rattle.flight_info.specs.Payloads.{FitMessages}
use Rattle.fetch_stream.specs.Streams.{HasGiven, opened}
use Rattle.fetch_stream.proofs.Answering.{turns}
use Rattle.flight_core.proofs.payload_collector.PayloadCollectorReadsPayloads.read.Given as goal

abbrev pub invariant-loop-parcel : goal.invariant-loop-parcel
invariant-loop-parcel g l = record {
  given : (answer : Table) → g.P.Payloads.stream l.fn.payloads ≡ opened answer → ((g.P.Payloads.stream l.payloads).refused ≡ None) × HasGiven answer l.self.payloads.items (g.P.Payloads.stream l.payloads);
  fits : FitMessages l.self.payloads.items;
}

abbrev pub decreases-loop-parcel : goal.decreases-loop-parcel
decreases-loop-parcel g l = turns (g.P.Payloads.stream l.payloads)
