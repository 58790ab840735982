use Rattle.std.proofs.Common.{◌∙◌, sym, refl}
use Rattle.std.specs.Arc.{arc_value}
use Rattle.arrays.proofs.Entries.{read_are_indices}
use Rattle.arrays.proofs.slots.Slots.indices.Goals as goal

pub invariant_of-result : goal.invariant_of-result
invariant_of-result c =
    record {
      stand = read_are_indices c.args.index c.in_ok-validity.validity c.args.values c.as_slice.result.now c.as_slice-2.result.now (arc_value c.args.dictionary) c.deref-2.result.now c.args.len
          c.as_slice.ensures c.as_slice-2.ensures c.deref-2.ensures c.in_ok-validity.ensures.long (sym c.has_elements.ensures.room ∙ c.if-not-has_elements.false)
          (sym c.slots_stand.ensures ∙ c.if-not-slots_stand.false) (rw (c.deref.ensures ∙ sym c.deref-2.ensures) at c.len-values.ensures.texts);
      count = refl;
    }
