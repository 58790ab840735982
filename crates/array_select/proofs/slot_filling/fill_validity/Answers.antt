use Rattle.std.proofs.Common.{◌≡◌, ◌∙◌, false, not, sym, ap, subst, arith}
use Rattle.scan_base.specs.Value.{is_null}
use Rattle.arrays.specs.TypedLayouts.{IsValueOf}
use Rattle.array_select.proofs.FilledSlots.{slot_more, flags_more, flags_valid, differ}
use Rattle.array_select.proofs.slot_filling.fill_validity.Goals.{then-nulls, else-nulls}
use Rattle.array_select.proofs.slot_filling.fill_validity.Goals as goal

pub loop-slot-preserved : goal.loop-slot-preserved
loop-slot-preserved g c =
    let slots = c.args.slots.now in
    let i = c.loop-slot.slot-index in
    let slot = c.slot-item.result in
    record {
      bits = flags_more (λ value. not (is_null value)) g.S.Source.held slots i slot c.loop-slot.bits c.push.new.self (not c.is_null-null.result) c.loop-slot-test.true c.slot-item.is c.in_ok-push.ensures.ok
          (ap not (c.is_null-null.ensures ∙ ap is_null c.value.ensures.value)) c.loop-slot.invariant.bits;
      none = λ none. elim c.if-nulls.branch [
        | then-nulls w ↦ differ c.if-nulls.nulls (w.nulls-is ∙ w.if-nulls.true) none
        | else-nulls w ↦ slot_more (λ value. is_null value ≡ false) g.S.Source.held slots i slot c.loop-slot-test.true c.slot-item.is
            (ap is_null (sym c.value.ensures.value) ∙ sym c.is_null-null.ensures ∙ sym w.nulls-is ∙ none) (c.loop-slot.invariant.none w.if-nulls.false)
      ];
      typed = λ data_type all. slot_more (IsValueOf data_type) g.S.Source.held slots i slot c.loop-slot-test.true c.slot-item.is
          (c.value.ensures.typed data_type (subst (g.S.Source.IsOf data_type) (sym c.slot-item.is) (all i slot c.loop-slot-test.true)))
          (c.loop-slot.invariant.typed data_type all);
    }

pub returns-then-not-nulls-clause-typed : goal.returns-then-not-nulls-clause-typed
returns-then-not-nulls-clause-typed g c data_type all k low = c.loop-slot.invariant.typed data_type all k (omega (arith, low, c.loop-slot-test.false))

pub returns-clause-typed : goal.returns-clause-typed
returns-clause-typed g c data_type all k low = c.loop-slot.invariant.typed data_type all k (omega (arith, low, c.loop-slot-test.false))

pub returns-clause-valid : goal.returns-clause-valid
returns-clause-valid g c =
    rw c.new-2.ensures (flags_valid g.S.Source.held c.args.slots.now c.loop-slot.slot-index c.loop-slot.bits c.in_ok-into_bits.field-0 c.loop-slot-test.false c.in_ok-into_bits.ensures.value c.loop-slot.invariant.bits)
