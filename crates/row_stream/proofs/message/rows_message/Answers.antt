use Rattle.std.proofs.Common.{◌<◌, ◌^◌, ℕ, List, length, sym, subst, arith}
use Rattle.ipc_batch.specs.WrittenMessages.{body_of, batch_buffers_written, parts_written}
use Rattle.ipc_stream.specs.Stream.{IsMessage}
use Rattle.row_stream.proofs.Messages.{batch_fits}
use Rattle.row_stream.proofs.message.rows_message.Goals as goal

pub returns-in_ok-buffers-in-Some-clause-fits : goal.returns-in_ok-buffers-in-Some-clause-fits
returns-in_ok-buffers-in-Some-clause-fits c =
    let batch = c.in-Some.sized in
    let header = c.in_ok-write_header-in-Some.field-0.items in
    let body = body_of (batch_buffers_written batch.columns) in
    let small : length body < 2 ^ 31 = omega (arith, c.body_length.ensures.short) in
    let fits = batch_fits header body (parts_written batch) c.in_ok-write_header-in-Some.ensures.parts c.in_ok-write_header-in-Some.ensures.short small in
    subst (λ (buffers : List (List ℕ)). IsMessage (record { header = header; body = body_of buffers })) (sym c.in_ok-buffers-in-Some.ensures) fits
