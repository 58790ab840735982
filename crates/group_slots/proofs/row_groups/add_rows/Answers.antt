use Rattle.std.proofs.Common.{length, sym, ap, ◌∙◌}
use Rattle.typed_plan.specs.declared.plan.Aggregate.{Aggregate}
use Rattle.group_slots.specs.Counting.{stepped}
use Rattle.group_slots.specs.HeldTallies.{tallies_in}
use Rattle.group_slots.proofs.Stepping.{stepped_key}
use Rattle.group_slots.proofs.row_groups.add_rows.Goals as goal

pub returns-in-Key-clause-stepped : goal.returns-in-Key-clause-stepped
returns-in-Key-clause-stepped c =
    let part = c.args.part.now in
    let columns = part.batch.now.columns in
    let tallies = tallies_in c.args.tallies.now in
    sym (ap (λ (item : Aggregate). stepped item columns part.groups.now part.rows.now tallies (length part.rows.now)) c.in-Key.is
    ∙ stepped_key c.in-Key.field-0 columns part.groups.now part.rows.now tallies (length part.rows.now)
    ∙ ap tallies_in c.in-Counts.is)
