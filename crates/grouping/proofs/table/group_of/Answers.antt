use Rattle.std.proofs.Common.{sym, ◌∙◌}
use Rattle.std.proofs.lemmas.Result.{IfOk-weaker}
use Rattle.typed_plan.specs.GroupedRows.{same_key}
use Rattle.first_rows.specs.RowKeys.{key_of}
use Rattle.grouping.proofs.Finding.{position_map}
use Rattle.grouping.proofs.table.group_of.Goals as goal

pub returns-clause-place : goal.returns-clause-place
returns-clause-place c =
    IfOk-weaker c.insert.result _ _ (λ group is. is ∙ sym (position_map key_of (same_key (key_of c.args.first)) c.args.firsts.now.keys)) c.insert.ensures.place
