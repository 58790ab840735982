use Rattle.std.proofs.Common.{◌+◌, ◌++◌, [], ℕ, List, drop, get_or, sym, ap, ◌∙◌, arith}
use Rattle.array_buffers.specs.ColumnBuffers.{buffers_written as column_written}
use Rattle.ipc_batch.specs.WrittenMessages.{body_of}
use Rattle.flatbuf.specs.Block.{padded}
use Rattle.std.proofs.Common.{append_assoc}
use Rattle.array_buffers.proofs.Appended.{begins_more}
use Rattle.ipc_batch.proofs.WriterLoops.{dropped_buffer}
use Rattle.ipc_batch.proofs.sized_batch.append_column.Goals as goal

pub loop-index-preserved : goal.loop-index-preserved
loop-index-preserved c =
    let buffers = column_written c.args.column.now in
    let i = c.loop-index.index in
    let part = padded (get_or buffers i []) in
    let rest = body_of (drop (i + 1) buffers) in
    record {
      body = ap (λ (xs : List ℕ). xs ++ rest) c.in_ok-append_buffer.ensures.ok ∙ append_assoc c.loop-index.body.items part rest
          ∙ ap (λ (xs : List (List ℕ)). c.loop-index.body.items ++ body_of xs) (sym (dropped_buffer buffers i (omega arith))) ∙ c.loop-index.invariant.body;
      begins = begins_more c.args.body.now.items c.loop-index.body.items c.append_buffer.new.body.items part c.in_ok-append_buffer.ensures.ok c.loop-index.invariant.begins;
    }
