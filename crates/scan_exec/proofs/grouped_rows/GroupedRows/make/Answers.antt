use Rattle.std.proofs.Common.{refl, sym, ◌∙◌, subst}
use Rattle.scan_exec.specs.declared.grouped_rows.Stage.{Stage}
use Rattle.scan_exec.specs.declared.grouped_rows.Stage.TheVariants.{Waiting, Made}
use Rattle.scan_exec.specs.Giving.{GivingAt, GivingOn, AnswerGivesNoneYet}
use Rattle.scan_exec.specs.GroupedRows.{of_groups}
use Rattle.row_sources.proofs.AllRows.{goes_still}
use Rattle.scan_exec.proofs.Grouping.{groups_on, made_ahead}
use Rattle.scan_exec.proofs.grouped_rows.GroupedRows.make.Goals as goal

-- they are there
pub returns-in-Made-clause-makes : goal.returns-in-Made-clause-makes
returns-in-Made-clause-makes g c =
    let s = c.self.inside in
    subst (λ (giving : GivingAt). AnswerGivesNoneYet giving giving) c.self.view_is
    (record { same = refl; on = groups_on s.wanted s.rows s.rows s.stage s.stage (goes_still s.rows c.self.invariant.front) })

-- they were refused before
pub returns-in-Refused-clause-makes : goal.returns-in-Refused-clause-makes
returns-in-Refused-clause-makes g c =
    let s = c.self.inside in
    subst (λ (giving : GivingAt). GivingOn giving giving) c.self.view_is (groups_on s.wanted s.rows s.rows s.stage s.stage (goes_still s.rows c.self.invariant.front))

pub invariant_of-self : goal.invariant_of-self
invariant_of-self g c =
    let made = c.in-Ok.ensures.made in
    record { front = c.made.ensures.on.opened; holds = (made.answering, made.all ∙ sym c.made.ensures.on.batches) }

pub returns-in-Ok-clause-makes : goal.returns-in-Ok-clause-makes
returns-in-Ok-clause-makes g c =
    let s = c.self.inside in
    let rows = c.made.new.rows in
    let after = of_groups rows s.wanted (Made c.in-Ok.made) in
    subst (λ (giving : GivingAt). AnswerGivesNoneYet giving after) c.self.view_is
    (subst (λ (stage : Stage). AnswerGivesNoneYet (of_groups s.rows s.wanted stage) after) (sym c.in-Waiting.is) (record {
      same = made_ahead s.wanted s.rows rows c.in-Ok.made c.in-Ok.ensures.made;
      on = groups_on s.wanted s.rows rows Waiting (Made c.in-Ok.made) c.made.ensures.on;
    }))
