use Rattle.std.proofs.Common.{◌<◌, length, take, arith}
use Rattle.flight_info.specs.inside.ListedTables.{types_listed}
use Rattle.flight_info.proofs.Listed.{more_types}
use Rattle.flight_info.proofs.tables.type_column.Goals as goal

pub loop-place-preserved : goal.loop-place-preserved
loop-place-preserved c =
    let pushed = c.in_ok-push.ensures (types_listed (take c.loop-place._place c.args.catalog.now)) c.loop-place.invariant in
    let within : c.loop-place._place < length c.args.catalog.now = omega (arith, c.len-place-end.ensures.count) in
    rw (more_types c.args.catalog.now c.loop-place._place within) pushed
