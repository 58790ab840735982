use Rattle.group_slots.specs.HeldTallies.{tallies_in}
use Rattle.group_slots.proofs.Padded.{padded_blank}
use Rattle.group_slots.proofs.item_tallies.ItemTallies.blank.Goals as goal

pub returns : goal.returns
returns c = padded_blank c.args.groups c.new.result.items (tallies_in c.resize.new.self) c.new.ensures.items c.in_ok-resize.ensures
