use Rattle.grpc_frame.proofs.Streams.{found_sound, found_flaw}
use Rattle.grpc_frame.proofs.inbox.Inbox.flaw.Goals as goal

pub returns-in-Ok : goal.returns-in-Ok
returns-in-Ok c = found_sound _ c.in-Ok.field-0 (rw (c.as_slice.ensures, c.self.view_is) at c.in-Ok.ensures.front)

pub returns-in-Err : goal.returns-in-Err
returns-in-Err c =
    let breaks = found_flaw _ c.in-Err.fault (rw c.as_slice.ensures at c.in-Err.ensures.bytes) (rw c.as_slice.ensures at c.in-Err.ensures.front) in
    rw c.self.view_is at breaks
