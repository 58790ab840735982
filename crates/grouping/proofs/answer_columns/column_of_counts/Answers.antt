use Rattle.std.proofs.Common.{◌∙◌, ap, map, arith}
use Rattle.scan_base.specs.declared.value.Value.TheVariants.{Int}
use Rattle.array_select.specs.ColumnValues.{value_or_null}
use Rattle.grouping.proofs.Answering.{if_ok, counts_of}
use Rattle.grouping.proofs.answer_columns.column_of_counts.Goals as goal

pub returns-clause-values : goal.returns-clause-values
returns-clause-values c =
    let is = counts_of c.args.counts.now c.loop-count.count-index c.loop-count.numbers.items (omega arith) c.loop-count.invariant in
    if_ok _ _ (λ made h. h ∙ ap (map (value_or_null Int)) c.as_slice.ensures.value ∙ is) c.column_of_int64s.result c.column_of_int64s.ensures.values
