use Rattle.std.proofs.Common.{List, length, ap, arith}
use Rattle.std.specs.Arc.{arc_value}
use Rattle.scan_base.specs.declared.value.Value.{Value}
use Rattle.arrays.proofs.Joined.{values_within}
use Rattle.arrays.proofs.runs.joined.Goals as goal

pub followed_by-requires : goal.followed_by-requires
followed_by-requires c =
    let within = values_within (λ (run : List Value). run) arc_value c.args.runs.now c.loop-run.run-index c.run-item.result c.loop-run-test.true c.run-item.is in
    omega (arith, c.requires, within, ap length c.loop-run.invariant, ap length c.deref.ensures)
