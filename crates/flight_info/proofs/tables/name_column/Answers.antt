use Rattle.std.proofs.Common.{take}
use Rattle.flight_info.specs.inside.ListedTables.{names_listed}
use Rattle.flight_info.proofs.Listed.{more_names}
use Rattle.flight_info.proofs.tables.name_column.Goals as goal

pub loop-place-preserved : goal.loop-place-preserved
loop-place-preserved c =
    let pushed = c.in_ok-push.ensures (names_listed (take c.loop-place.place c.args.catalog.now)) c.loop-place.invariant in
    rw (more_names c.args.catalog.now c.loop-place.place c.entry.result.now c.entry.ensures) (rw c.as_str.ensures at pushed)
