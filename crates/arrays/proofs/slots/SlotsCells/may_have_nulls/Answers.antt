use Rattle.std.proofs.Common.{sym, ◌∙◌}
use Rattle.arrays.proofs.ValidSlots.{none_null}
use Rattle.arrays.proofs.slots.SlotsCells.may_have_nulls.Goals as goal

pub returns-else-is_some : goal.returns-else-is_some
returns-else-is_some c = λ no.
    none_null c.args.self.now (rw (c.bits.ensures ∙ c.validity.ensures) at (sym c.is_some.ensures ∙ c.if-is_some.false)) (c.may_be_null_where_valid.ensures no)
