use Rattle.std.proofs.Common.{◌≡◌, true, false, sym, ap, ◌∙◌, arith}
use Rattle.scan_base.specs.Value.{is_null}
use Rattle.arrays.specs.Column.{ColumnAt, slot_of}
use Rattle.arrays.proofs.NullSlots.{count_null, count_other}
use Rattle.arrays.proofs.slots.Slots.null_values.Goals.{then-is_null, else-is_null}
use Rattle.arrays.proofs.slots.Slots.null_values.Goals as goal

pub loop-place-preserved : goal.loop-place-preserved
loop-place-preserved c =
    let column : ColumnAt = record { layout = c.args.self.now; first = c.args.first; len = c.args.len } in
    let told = c.is_null.ensures ∙ ap is_null c.value_at.ensures in
    elim c.if-is_null.branch [
      | then-is_null w ↦
          let null : is_null (slot_of column c.loop-place.place) ≡ true = sym told ∙ w.if-is_null.true in
          let next = count_null column c.loop-place.place (omega arith) null in
          record { few = omega (arith, w.count-is, c.loop-place.invariant.few); all = omega (arith, w.count-is, next, c.loop-place.invariant.all) }
      | else-is_null w ↦
          let other : is_null (slot_of column c.loop-place.place) ≡ false = sym told ∙ w.if-is_null.false in
          let next = count_other column c.loop-place.place (omega arith) other in
          record { few = omega (arith, w.count-is, c.loop-place.invariant.few); all = omega (arith, w.count-is, next, c.loop-place.invariant.all) }
    ]
