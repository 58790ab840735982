use Rattle.std.proofs.Common.{◌∙◌, ap, map, arith}
use Rattle.scan_base.specs.declared.value.Value.TheVariants.{Int}
use Rattle.array_select.specs.ColumnValues.{value_or_null}
use Rattle.grouping.proofs.Answering.{if_ok, sums_of}
use Rattle.grouping.proofs.answer_columns.column_of_sums.Goals as goal

pub returns-clause-values : goal.returns-clause-values
returns-clause-values c =
    let is = sums_of c.args.tallies.now c.loop-tally.tally-index c.loop-tally.sums.items (omega arith) c.loop-tally.invariant in
    if_ok _ _ (λ made h. h ∙ ap (map (value_or_null Int)) c.as_slice.ensures.value ∙ is) c.column_of_decimals.result c.column_of_decimals.ensures.values
