use Rattle.std.proofs.Common.{length, take, ◌≤◌, Some}
use Rattle.std.specs.Io.KnownBytes.{Appends}
use Rattle.grpc_frame.proofs.counted_end.write_whole.Given as goal

abbrev pub invariant-loop-done : goal.invariant-loop-done
invariant-loop-done g l = record {
  within : l.done ≤ length l.piece;
  noted : Appends (Some l.initial.taken.bytes) (Some l.taken.bytes) (take l.done l.piece);
  held : Appends (g.W.Write.contents l.initial.writer) (g.W.Write.contents l.writer) (take l.done l.piece);
}

abbrev pub decreases-loop-done : goal.decreases-loop-done
decreases-loop-done g l = l.turns
