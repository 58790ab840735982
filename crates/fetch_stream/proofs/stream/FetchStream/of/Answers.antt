use Rattle.arrays.specs.Batch.{rows_of}
use Rattle.fetch_stream.specs.inside.RowsAhead.{schema_behind, left_behind}
use Rattle.fetch_stream.proofs.Stepping.{none_cut, none_taken}
use Rattle.fetch_stream.proofs.Going.{starts}
use Rattle.fetch_stream.proofs.stream.FetchStream.of.Goals as goal

pub returns : goal.returns
returns c =
    let batch = c.args.batch in
    let source = c.args.source in
    rw c.new.ensures (starts (schema_behind source) _ (rows_of batch) (left_behind source) _ (none_cut c.batch_slices_keep_rows.ensures batch 65536) (none_taken batch 65536 source c.requires.all))
