use Rattle.std.proofs.Common.{◌-◌, ◌≤◌, length, drop}
use Rattle.ipc_stream.proofs.Streams.{Reached}
use Rattle.ipc_stream.proofs.stream.ipc_messages.Given as goal

abbrev pub invariant-loop-messages : goal.invariant-loop-messages
invariant-loop-messages l = record {
  within : l.at ≤ length l.stream;
  reached : Reached l.stream l.messages.items (drop l.at l.stream);
}

abbrev pub decreases-loop-messages : goal.decreases-loop-messages
decreases-loop-messages l = length l.stream - l.at
