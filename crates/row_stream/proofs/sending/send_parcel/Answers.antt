use Rattle.std.proofs.Common.{List, [], ◌∷◌, ◌++◌, length, map, ◌<◌, ◌^◌, subst, sym}
use Rattle.std.specs.Prelude.{All}
use Rattle.std.proofs.lemmas.Result.{err_from_is_err_and}
use Rattle.grpc_frame.proofs.Sending.{head_not_sent, sent_behind}
use Rattle.ipc_batch.specs.declared.writer.WrittenMessage.{WrittenMessage}
use Rattle.ipc_stream.specs.Stream.{IsMessage}
use Rattle.row_stream.specs.inside.Frames.{as_message}
use Rattle.row_stream.proofs.Dressed.{headers_fit, last_fits, parcel_frames}
use Rattle.row_stream.proofs.sending.send_parcel.Goals as goal

pub send_dictionaries-requires-clause-fit : goal.send_dictionaries-requires-clause-fit
send_dictionaries-requires-clause-fit g c =
    let parcel = c.parcel.inside in
    let fit : All IsMessage (map as_message parcel.dictionaries.items ++ parcel.rows ∷ []) = rw (← c.parcel.view_is) at c.requires.fit in
    subst (λ (l : List WrittenMessage). All (λ (message : WrittenMessage). length message.header.items < 2 ^ 31) l) (sym c.deref.ensures.value) (headers_fit parcel.dictionaries.items parcel.rows fit)

pub send_frame-requires-clause-fits : goal.send_frame-requires-clause-fits
send_frame-requires-clause-fits g c =
    let parcel = c.parcel.inside in
    let fit : All IsMessage (map as_message parcel.dictionaries.items ++ parcel.rows ∷ []) = rw (← c.parcel.view_is) at c.requires.fit in
    let last : IsMessage parcel.rows = last_fits parcel.dictionaries.items parcel.rows fit in
    last.fits

pub returns-in_err-send_dictionaries-clause-bytes : goal.returns-in_err-send_dictionaries-clause-bytes
returns-in_err-send_dictionaries-clause-bytes g c =
    let p = err_from_is_err_and c.from_residual.result c.from_residual.ensures.1 in
    let parcel = c.parcel.inside in
    rw (p.1, ← c.parcel.view_is, ← parcel_frames parcel.dictionaries.items parcel.rows) (head_not_sent _ _ _ _ _ _ (rw c.deref.ensures.value at c.in_err-send_dictionaries.ensures.bytes))

pub returns-clause-bytes : goal.returns-clause-bytes
returns-clause-bytes g c =
    let parcel = c.parcel.inside in
    rw (← c.parcel.view_is, ← parcel_frames parcel.dictionaries.items parcel.rows)
    (sent_behind _ _ _ _ _ _ _ _ _ (rw c.deref.ensures.value at c.in_ok-send_dictionaries.ensures.bytes) c.send_frame.ensures.bytes)
