use Rattle.std.proofs.Common.{ℕ, ◌+◌, Bool, List, Option, subst, sym, ap, ◌∙◌}
use Rattle.arrays.specs.Layout.{layout_slot}
use Rattle.arrays.specs.Validity.{where_valid}
use Rattle.arrays.specs.declared.layout.Layout.{Layout}
use Rattle.batch_stats.specs.inside.Slots.{AreNulls}
use Rattle.batch_stats.proofs.Coded.{led_value}
use Rattle.batch_stats.proofs.Passes.{nulls_are}
use Rattle.batch_stats.proofs.entries.entries_stats.Goals as goal

pub returns-in_default : goal.returns-in_default
returns-in_default c =
    let cells = c.args.cells.now in
    let column = c.args.column.now in
    let validity = c.validity.result.now in
    let nulls : AreNulls validity column.first (column.first + column.len) =
    subst (λ (f : ℕ). AreNulls validity f (column.first + column.len)) c.first-first.ensures
    (subst (λ (f : ℕ). AreNulls validity c.first-first.result (f + column.len)) c.first.ensures
    (subst (λ (n : ℕ). AreNulls validity c.first-first.result (c.first.result + n)) c.len.ensures.count c.in_default.ensures.none)) in
    nulls_are column validity (led_value cells) (λ place.
    ap (λ (known : Layout). layout_slot known place) c.requires ∙ ap (λ (v : Option (List Bool)). where_valid v (led_value cells) place) (sym c.validity.ensures)) nulls
