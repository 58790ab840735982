use Rattle.std.proofs.Common.{◌≡◌, ◌+◌, ◌++◌, ◌∙◌, ℕ, List, drop, map, ap, sym, append_assoc, arith}
use Rattle.std.specs.List.{flat_map}
use Rattle.std.proofs.lemmas.List.Elements.{All-cons}
use Rattle.arrays.specs.Column.{ColumnAt, IsColumn}
use Rattle.ipc_batch.specs.WrittenMessages.{node_bytes, node_written}
use Rattle.ipc_batch.proofs.WriterLoops.{dropped}
use Rattle.ipc_batch.proofs.sized_batch.node_structs.Goals as goal

pub loop-column-preserved : goal.loop-column-preserved
loop-column-preserved c =
    let columns = c.args.columns.now in
    let column = c.column-item.result in
    let i = c.loop-column.column-index in
    let more = drop (i + 1) columns in
    let front = dropped columns i column (omega arith) c.column-item.is in
    let old = c.loop-column.structs.items in
    let rest = flat_map node_bytes (map node_written more) in
    let put : c.put_pair.new.structs.items ≡ old ++ node_bytes (node_written column) = rw (c.len.ensures.count, c.null_count.ensures) at c.in_ok-put_pair.ensures in
    record {
      nodes = ap (λ (xs : List ℕ). xs ++ rest) put ∙ append_assoc old (node_bytes (node_written column)) rest
          ∙ ap (λ (left : List ColumnAt). old ++ flat_map node_bytes (map node_written left)) (sym front) ∙ c.loop-column.invariant.nodes;
      stand = λ rest. c.loop-column.invariant.stand (rw front (All-cons IsColumn column more c.len.ensures.stands rest));
    }
