use Rattle.std.proofs.Common.{[], false, arith}
use Rattle.arrow_types.specs.declared.data_type.DataType.TheVariants as type
use Rattle.csv_input.specs.inside.Batches.{IsBatchOf}
use Rattle.csv_input.specs.inside.Cells.{HasWrongColumn}
use Rattle.csv_input.proofs.Taken.{batch_taken, none_wrong}
use Rattle.std.proofs.lemmas.Result.{err_from_is_err_and}
use Rattle.csv_input.proofs.Lengthy.{long_taken}
use Rattle.csv_input.proofs.table.next_batch.Goals as goal

pub unreachable-requires : goal.unreachable-requires
unreachable-requires c =
    let columns = c.args.columns.now in
    let wrong : HasWrongColumn c.in_ok-chunk.chunk columns = rw c.in-None.is at c.in_ok-batch.ensures.found in
    none_wrong columns c.in_ok-chunk.chunk _ _ (record { name = []; nullable = false; data_type = type.Bool }) c.in_ok-chunk.ensures.taken c.requires.right wrong

pub returns-clause-taken : goal.returns-clause-taken
returns-clause-taken c =
    let columns = c.args.columns.now in
    let is : IsBatchOf c.in_ok-chunk.chunk columns c.in-Some.batch = rw c.in-Some.is at c.in_ok-batch.ensures.found in
    batch_taken columns c.in_ok-chunk.chunk c.in-Some.batch _ _ c.in_ok-chunk.ensures.taken (λ none. omega (arith, none, c.rows.ensures, c.if-rows-eq0.false)) is

pub returns-in_err-batch-clause-refused : goal.returns-in_err-batch-clause-refused
returns-in_err-batch-clause-refused c =
    let p = err_from_is_err_and c.from_residual-in_err-batch.result c.from_residual-in_err-batch.ensures.1 in
    rw (p.1, p.2) (long_taken c.args.columns.now c.in_ok-chunk.chunk _ _ _ c.in_ok-chunk.ensures.taken c.in_err-batch.ensures.refused)
