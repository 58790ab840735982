use Rattle.std.proofs.Common.{◌∙◌, sym}
use Rattle.version_cell.proofs.shared_putter.CountedPublisher.ask.Goals as goal

pub invariant_of-self : goal.invariant_of-self
invariant_of-self g c = record { counted = c.args.self.now.counted ∙ sym c.catch_up.ensures.tally; each = c.args.self.now.each }
