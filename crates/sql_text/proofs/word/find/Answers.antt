use Rattle.std.proofs.Common.{sym, ◌∙◌}
use Rattle.sql_text.proofs.Words.{row_has, row_lacks}
use Rattle.sql_text.proofs.word.find.Goals as goal

pub returns-then-eq_ignore_ascii_case : goal.returns-then-eq_ignore_ascii_case
returns-then-eq_ignore_ascii_case c =
    sym (row_has c.args.rows.now c.loop-row.row-index _ c.args.text.now c.eq_ignore_ascii_case.result c.loop-row-test.true c.eq_ignore_ascii_case.ensures.test c.if-eq_ignore_ascii_case.true)
    ∙ c.loop-row.invariant

pub loop-row-preserved : goal.loop-row-preserved
loop-row-preserved c =
    sym (row_lacks c.args.rows.now c.loop-row.row-index _ c.args.text.now c.eq_ignore_ascii_case.result c.loop-row-test.true c.eq_ignore_ascii_case.ensures.test c.if-eq_ignore_ascii_case.false)
    ∙ c.loop-row.invariant
