use denote.Param.Send.{sendable}
use Rattle.std.proofs.Crossing.{crosses}
use Rattle.server_cases.proofs.Sent.{kept_send, shown_send}
use Rattle.server_cases.proofs.server_thread.BoundPort.TheSendSync as bound
use Rattle.server_cases.proofs.endless_serve.serve_opened.Goals as goal

-- what a listener holds may cross threads, since its lock, its port and its seat may
pub serve-status-requires-send-L : goal.serve-status-requires-send-L
serve-status-requires-send-L g c κs within =
    let k = kept_send in let b = bound.the_field_send in let s = shown_send in
    let send = c.type_bounds.send-C in let sync = c.type_bounds.sync-R in
    search (sendable, crosses) depth 20
