use denote.Param.Send.{sendable}
use Rattle.std.proofs.Crossing.{crosses}
use Rattle.scan_base.proofs.fault.Fault.TheSendSync as fault
use Rattle.scan_base.proofs.seed.HashSeed.TheSendSync as seed
use Rattle.fetch_stream.proofs.ahead_parcel.AheadParcel.TheSendSync as made
use Rattle.fetch_workers.proofs.Sent.{scan_sync, stream_send}
use Rattle.fetch_workers.proofs.Kept.{answers_morsels}
use Rattle.fetch_workers.proofs.workers.read_beside.Goals as goal

pub in_order-requires-clause-takes : goal.in_order-requires-clause-takes
in_order-requires-clause-takes g c κs within = (c.requires, answers_morsels c.in_ok-morsels.morsels)

pub in_order-requires-send-A : goal.in_order-requires-send-A
in_order-requires-send-A g c κs within =
    let s = scan_sync in let m = made.the_field_send in let r = stream_send in let f = fault.the_field_send in let h = seed.the_field_sync in search (sendable, crosses) depth 20

pub in_order-requires-sync-W : goal.in_order-requires-sync-W
in_order-requires-sync-W g c κs within = let s = scan_sync in let h = seed.the_field_sync in search (sendable, crosses) depth 20
