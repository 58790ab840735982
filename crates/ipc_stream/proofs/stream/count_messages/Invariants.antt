use Rattle.std.proofs.Common.{◌+◌, ◌≤◌, length, List}
use Rattle.ipc_stream.specs.declared.message.IpcMessage.{IpcMessage}
use Rattle.ipc_stream.proofs.Streams.{Reached}
use Rattle.ipc_stream.proofs.stream.count_messages.Given as goal

abbrev pub invariant-loop-frame : goal.invariant-loop-frame
invariant-loop-frame l = record {
  reached : (done : List IpcMessage) × Reached l.stream done l.left;
  counted : l.count + length l.left ≤ length l.stream;
}

abbrev pub decreases-loop-frame : goal.decreases-loop-frame
decreases-loop-frame l = length l.left
