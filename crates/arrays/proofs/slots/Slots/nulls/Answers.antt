use Rattle.std.proofs.Common.{sym, ◌∙◌, ap, is_some}
use Rattle.arrays.proofs.ValidSlots.{none_null, null_at_zero}
use Rattle.arrays.proofs.slots.Slots.nulls.Goals as goal

pub returns-in-None : goal.returns-in-None
returns-in-None c =
    none_null c.args.self.now (ap is_some (sym c.validity.ensures ∙ sym c.bits.ensures ∙ c.in-None.is)) (c.may_be_null_where_valid.ensures c.if-may_be_null_where_valid.false)

pub returns-in-Some : goal.returns-in-Some
returns-in-Some c =
    null_at_zero c.args.self.now c.in-Some.bits c.len-count.ensures.stands (sym c.validity.ensures ∙ sym c.bits.ensures ∙ c.in-Some.is) (c.may_be_null_where_valid.ensures c.if-may_be_null_where_valid.false)
