use Rattle.std.proofs.Common.{◌≡◌, ◌++◌, length, take}
use Rattle.std.specs.Vec.Iter.{into_iter_items}
use Rattle.flight_core.proofs.payload_collector.append_parcel.Given as goal

abbrev pub invariant-loop-payload : goal.invariant-loop-payload
invariant-loop-payload l = record {
  all : l.payloads.items ++ into_iter_items l.payload-iterator ≡ l.fn.payloads.items ++ l.fn.parcel;
  begins : take (length l.fn.payloads.items) l.payloads.items ≡ l.fn.payloads.items;
}
