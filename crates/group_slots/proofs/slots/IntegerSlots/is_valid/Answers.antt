use Rattle.group_slots.proofs.slots.IntegerSlots.is_valid.Goals as goal
use Rattle.group_slots.proofs.Slotted.{has_bit}

-- src/slots.rt:108:9
pub is_valid-requires : goal.is_valid-requires
is_valid-requires c = has_bit c.args.self.now c.requires.0 c.args.row c.requires.1 c.requires.2
