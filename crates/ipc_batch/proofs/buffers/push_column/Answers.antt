use Rattle.std.proofs.Common.{◌+◌, ◌++◌, ◌∷◌, [], ℕ, List, drop, get_or, sym, ap, ◌∙◌, arith, append_assoc}
use Rattle.array_buffers.specs.ColumnBuffers.{buffers_written as column_written}
use Rattle.ipc_batch.proofs.WriterLoops.{dropped_buffer, short_texts}
use Rattle.ipc_batch.proofs.buffers.push_column.Goals as goal

pub buffer-requires-clause-texts : goal.buffer-requires-clause-texts
buffer-requires-clause-texts c = short_texts c.args.column.now c.requires

pub loop-index-preserved : goal.loop-index-preserved
loop-index-preserved c =
    let buffers = column_written c.args.column.now in
    let i = c.loop-index.index in
    let rest = drop (i + 1) buffers in
    ap (λ (xs : List (List ℕ)). xs ++ rest) (c.in_ok-push.ensures.items ∙ ap (λ (x : List ℕ). c.loop-index.buffers.items ++ x ∷ []) c.in_ok-buffer.ensures)
    ∙ append_assoc c.loop-index.buffers.items (get_or buffers i [] ∷ []) rest
    ∙ ap (λ (xs : List (List ℕ)). c.loop-index.buffers.items ++ xs) (sym (dropped_buffer buffers i (omega arith))) ∙ c.loop-index.invariant
