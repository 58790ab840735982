use Rattle.std.proofs.Common.{sym}
use Rattle.sql_query.specs.Sentence.{sentence_of}
use Rattle.query_binder.proofs.Listed.{grouped_output, plain_output}
use Rattle.query_binder.proofs.selection.bind_output.Goals as goal

pub returns-then-is_grouped : goal.returns-then-is_grouped
returns-then-is_grouped c =
    let grouped = rw c.if-is_grouped.true at (sym c.is_grouped.ensures) in
    let bound = rw (c.as_slice.ensures, c.as_slice-then-is_grouped.ensures) at c.bind_groups.ensures in
    grouped_output (sentence_of c.args.query.now) c.args.scope.now c.in-List.items c.bind_groups.result c.in-List.is grouped
    bound

pub returns-else-is_grouped : goal.returns-else-is_grouped
returns-else-is_grouped c =
    let plain = rw c.if-is_grouped.false at (sym c.is_grouped.ensures) in
    let bound = rw c.as_slice-else-is_grouped.ensures at c.bind_columns.ensures in
    plain_output (sentence_of c.args.query.now) c.args.scope.now c.in-List.items c.bind_columns.result c.in-List.is plain
    bound
