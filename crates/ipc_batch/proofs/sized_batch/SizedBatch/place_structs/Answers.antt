use Rattle.std.proofs.Common.{◌≡◌, ◌<◌, ◌+◌, ◌^◌, ◌∙◌, [], length, get_or, arith}
use Rattle.ipc_batch.specs.WrittenMessages.{body_length, batch_buffers_written}
use Rattle.ipc_batch.proofs.WriterLoops.{buffer_more, place_added, length_at}
use Rattle.ipc_batch.proofs.sized_batch.SizedBatch.place_structs.Goals as goal

-- the length that is placed is that of a buffer
length_is : (c : goal.After-zeros_behind) → (c.loop-length.length-index < length (batch_buffers_written c.args.self.now.columns))
    × (get_or c.as_slice-lengths.result.now c.loop-length.length-index 0 ≡ length (get_or (batch_buffers_written c.args.self.now.columns) c.loop-length.length-index []))
length_is c = length_at _ _ _ (rw c.self.view_is at (c.as_slice-lengths.ensures.value ∙ c.self.invariant.each_is)) (omega arith)

-- the buffer lies in the body
within : (c : goal.After-zeros_behind) → c.loop-length.end + (get_or c.as_slice-lengths.result.now c.loop-length.length-index 0 + c.zeros_behind.result) < 2 ^ 31
within c =
    let is = length_is c in
    let more = buffer_more (batch_buffers_written c.args.self.now.columns) c.loop-length.length-index is.0 in
    let all : c.self.inside.body_length ≡ body_length c.args.self.now = rw c.self.view_is at c.self.invariant.all_are in
    omega (arith, is.1, more, all, c.loop-length.invariant.end, c.zeros_behind.ensures, c.self.invariant.small)

pub overflow_add-end : goal.overflow_add-end
overflow_add-end c = omega (arith, within c)

pub overflow_add-end-in-loop-length : goal.overflow_add-end-in-loop-length
overflow_add-end-in-loop-length c = omega (arith, within c)

pub loop-length-preserved : goal.loop-length-preserved
loop-length-preserved c =
    let is = length_is c in
    let buffers = batch_buffers_written c.args.self.now.columns in
    let i = c.loop-length.length-index in
    let more = buffer_more buffers i is.0 in
    record {
      end = omega (arith, is.1, more, c.loop-length.invariant.end, c.zeros_behind.ensures);
      places = place_added c.loop-length.structs.items c.put_pair.new.structs.items buffers c.loop-length.end _ i (get_or c.as_slice-lengths.result.now i 0) _ is.0 is.1
          (omega (arith, c.zeros_behind.ensures)) c.in_ok-put_pair.ensures c.loop-length.invariant.places;
    }
