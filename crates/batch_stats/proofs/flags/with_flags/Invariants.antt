use Rattle.std.proofs.Common.{◌≡◌, Some, get_or, false}
use Rattle.scan_base.specs.declared.value.Value.TheVariants.{Bool as Flag}
use Rattle.arrays.specs.Validity.{where_valid}
use Rattle.batch_stats.specs.inside.Slots.{ends_with}
use Rattle.batch_stats.proofs.flags.with_flags.Given as goal

abbrev pub invariant-loop-place : goal.invariant-loop-place
invariant-loop-place l =
    ends_with (Some (Flag l.flag, Flag l.flag)) (where_valid l.cells.validity (λ place. Flag (get_or l.cells.values place false))) l.place l.to
    ≡ ends_with (Some (Flag l.flag, Flag l.flag)) (where_valid l.cells.validity (λ place. Flag (get_or l.cells.values place false))) l.from l.to
