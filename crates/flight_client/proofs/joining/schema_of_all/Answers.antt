use Rattle.std.proofs.Common.{refl}
use Rattle.flight_client.proofs.Together.{read_next, still_same, no_more_same, has_columns}
use Rattle.flight_client.proofs.joining.schema_of_all.Goals as goal
use Rattle.flight_client.proofs.joining.schema_of_all.Goals.{then-all_same, else-all_same}

pub loop-other-preserved : goal.loop-other-preserved
loop-other-preserved c =
    read_next _ c.loop-other.other-index c.in_ok-schema.schema.now c.loop-other.all_same c.if-all_same.all_same c.other-item.result c.in_ok-other.other.now c.loop-other-test.true c.other-item.is c.in_ok-other.ensures
    (elim c.if-all_same.branch [
      | then-all_same w ↦ still_same c.loop-other.all_same (has_columns c.in_ok-schema.schema.now c.in_ok-other.other.now) c.if-all_same.all_same w.if-all_same.true (rw (w.all_same-is, w.same_fields-all_same.ensures, w.as_slice.ensures, w.as_slice-then-all_same.ensures) refl)
      | else-all_same w ↦ no_more_same c.loop-other.all_same (has_columns c.in_ok-schema.schema.now c.in_ok-other.other.now) c.if-all_same.all_same w.if-all_same.false w.all_same-is
    ])
    c.loop-other.invariant
