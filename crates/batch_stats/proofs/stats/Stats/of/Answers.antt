use Rattle.arrays.specs.declared.layout.Layout.TheVariants.{Integers, Decimals, Bools, Texts}
use Rattle.batch_stats.proofs.Passes.{column_is}
use Rattle.batch_stats.proofs.stats.Stats.of.Goals as goal

pub returns-in-Integers : goal.returns-in-Integers
returns-in-Integers c =
    column_is c.args.column.now (Integers c.in-Integers.cells) c.first-first.result c.len-len.result c.in-Integers.ensures.value c.first-first.ensures c.len-len.ensures.count c.integers_stats.result c.integers_stats.ensures

pub returns-in-Decimals : goal.returns-in-Decimals
returns-in-Decimals c =
    column_is c.args.column.now (Decimals c.in-Decimals.cells) c.first-first.result c.len-len.result c.in-Decimals.ensures.value c.first-first.ensures c.len-len.ensures.count c.decimals_stats.result c.decimals_stats.ensures

pub returns-in-Bools : goal.returns-in-Bools
returns-in-Bools c =
    column_is c.args.column.now (Bools c.in-Bools.cells) c.first-first.result c.len-len.result c.in-Bools.ensures.value c.first-first.ensures c.len-len.ensures.count c.flags_stats.result c.flags_stats.ensures

pub returns-in-Texts : goal.returns-in-Texts
returns-in-Texts c =
    column_is c.args.column.now (Texts c.in-Texts.cells) c.first-first.result c.len-len.result c.in-Texts.ensures.value c.first-first.ensures c.len-len.ensures.count c.texts_stats.result c.texts_stats.ensures
