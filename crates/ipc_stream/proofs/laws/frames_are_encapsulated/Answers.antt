use Rattle.ipc_stream.proofs.Cuts.{frame_written}
use Rattle.ipc_stream.proofs.laws.frames_are_encapsulated.Goals as goal

pub returns : goal.returns
returns c = frame_written
