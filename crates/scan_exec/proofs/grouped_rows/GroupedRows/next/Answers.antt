use Rattle.std.proofs.Common.{◌≡◌, refl, sym, ◌∙◌, subst}
use Rattle.scan_exec.specs.declared.grouped_rows.Stage.{Stage}
use Rattle.scan_exec.specs.declared.grouped_rows.Stage.TheVariants.{Waiting, Made}
use Rattle.scan_exec.specs.Giving.{GivingAt, GivesNext}
use Rattle.scan_exec.specs.GroupedRows.{IsAnswering, of_groups}
use Rattle.row_sources.proofs.AllRows.{goes_still}
use Rattle.scan_exec.proofs.Grouping.{gives_made, groups_on, made_ahead, still_answering}
use Rattle.scan_exec.proofs.grouped_rows.GroupedRows.next.Goals as goal

pub returns-in-Made : goal.returns-in-Made
returns-in-Made c =
    let s = c.self.inside in
    let made = c.in-Made.made in
    let after = of_groups s.rows s.wanted (Made c.next.new.self) in
    let holds : IsAnswering s.wanted made × (s.rows.opened ≡ s.rows.batches) = rw c.in-Made.is at c.self.invariant.holds in
    subst (λ (g : GivingAt). GivesNext g c.next.result after) c.self.view_is
    (subst (λ (stage : Stage). GivesNext (of_groups s.rows s.wanted stage) c.next.result after) (sym c.in-Made.is)
    (gives_made s.rows s.wanted (of_groups s.rows s.wanted (Made made)) made c.next.new.self holds.0 refl refl
    (groups_on s.wanted s.rows s.rows (Made made) (Made c.next.new.self) (goes_still s.rows c.self.invariant.front)) holds.1
    c.next.ensures.batches c.next.result c.next.ensures.gives))

pub invariant_of-self-in-Ok : goal.invariant_of-self-in-Ok
invariant_of-self-in-Ok c =
    let made = c.in-Ok.ensures.made in
    record {
      front = c.made.ensures.on.opened;
      holds = (
        still_answering c.self.inside.wanted c.in-Ok.made c.next-first.new.self made.answering c.next-first.ensures.batches c.next-first.result c.next-first.ensures.gives,
        made.all ∙ sym c.made.ensures.on.batches,
      );
    }

pub returns-in-Ok : goal.returns-in-Ok
returns-in-Ok c =
    let s = c.self.inside in
    let rows = c.made.new.rows in
    let after = of_groups rows s.wanted (Made c.next-first.new.self) in
    let made = c.in-Ok.ensures.made in
    subst (λ (g : GivingAt). GivesNext g c.next-first.result after) c.self.view_is
    (subst (λ (stage : Stage). GivesNext (of_groups s.rows s.wanted stage) c.next-first.result after) (sym c.in-Waiting.is)
    (gives_made rows s.wanted (of_groups s.rows s.wanted Waiting) c.in-Ok.made c.next-first.new.self made.answering refl (made_ahead s.wanted s.rows rows c.in-Ok.made made)
    (groups_on s.wanted s.rows rows Waiting (Made c.next-first.new.self) c.made.ensures.on) made.all
    c.next-first.ensures.batches c.next-first.result c.next-first.ensures.gives))
