use Rattle.std.proofs.Common.{sym, ◌∙◌, arith}
use Rattle.std.proofs.lemmas.Result.{IfOk-weaker}
use Rattle.typed_plan.specs.GroupedRows.{same_key}
use Rattle.first_rows.specs.RowKeys.{key_of}
use Rattle.grouping.proofs.Finding.{position_map}
use Rattle.grouping.proofs.Knowing.{found_before}
use Rattle.grouping.proofs.coded_groups.coded_group.Goals as goal

pub returns-in-Some-clause-inserted : goal.returns-in-Some-clause-inserted
returns-in-Some-clause-inserted c =
    let told = rw c.in-Some.is at c.requires.told in
    sym (found_before c.args.firsts.now.keys c.args.first (omega (arith, told.0, told.1)))

pub returns-clause-place : goal.returns-clause-place
returns-clause-place c =
    IfOk-weaker c.short.result _ _ (λ group is.
    is ∙ c.in_ok-insert_seen.ensures.place ∙ sym (position_map key_of (same_key (key_of c.args.first)) c.args.firsts.now.keys)) c.short.ensures
