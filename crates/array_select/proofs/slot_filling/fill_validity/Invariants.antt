use Rattle.std.proofs.Common.{◌≡◌, ◌<◌, ℕ, All, false, map, take, get_or, not}
use Rattle.scan_base.specs.Value.{is_null}
use Rattle.scan_base.specs.declared.value.Value.TheVariants.{Null}
use Rattle.arrow_types.specs.declared.data_type.DataType.{DataType}
use Rattle.array_select.specs.inside.SlotFilling.{AreOfType}
use Rattle.array_select.proofs.slot_filling.fill_validity.Given as goal

abbrev pub invariant-loop-slot : goal.invariant-loop-slot
invariant-loop-slot g l = record {
  bits : l.bits ≡ map (λ value. not (is_null value)) (map g.S.Source.held (take l.slot-index l.slots));
  none : l.nulls ≡ false → (k : ℕ) → k < l.slot-index → is_null (get_or (map g.S.Source.held l.slots) k Null) ≡ false;
  typed : (data_type : DataType) → All (g.S.Source.IsOf data_type) l.slots → AreOfType data_type (map g.S.Source.held l.slots) l.slot-index;
}
