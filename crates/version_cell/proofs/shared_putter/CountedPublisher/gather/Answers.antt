use Rattle.std.proofs.Common.{◌∙◌, sym}
use Rattle.version_cell.proofs.shared_putter.CountedPublisher.gather.Goals as goal

pub invariant_of-self : goal.invariant_of-self
invariant_of-self g c = record { counted = c.args.self.now.counted ∙ sym c.none.ensures.same; each = c.args.self.now.each }
