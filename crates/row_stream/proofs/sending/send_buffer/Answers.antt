use Rattle.std.proofs.Common.{◌≡◌, ◌++◌, ◌-◌, ◌%◌, ℕ, List, length, take, replicate, ap₂, subst, arith}
use Rattle.flatbuf.specs.Block.{padding}
use Rattle.grpc_frame.specs.Sending.{Sends}
use Rattle.row_stream.proofs.Parts.{zeros_taken}
use Rattle.row_stream.proofs.sending.send_buffer.Goals as goal

pub returns-clause-bytes : goal.returns-clause-bytes
unfolding padding
returns-clause-bytes g c =
    let buffer = c.args.buffer.now in
    let zeros : take ((8 - c.len.result % 8) % 8) (replicate 8 0) ≡ padding (length buffer) = rw c.len.ensures.value (zeros_taken ((8 - length buffer % 8) % 8) 8 (omega arith)) in
    let P : List ℕ → Type 0 = λ bytes. Sends c.send_parts.result (g.W.Output.contents c.args.writer.now) (g.W.Output.contents c.send_parts.new.writer) c.args.outbox.now c.send_parts.new.self bytes in
    subst P (ap₂ (λ (x y : List ℕ). x ++ y) c.as_slice.ensures zeros) c.send_parts.ensures.bytes
