use Rattle.std.proofs.Math.Logic.{∥∥₁_prop, ∥∥₁_elim}
use Rattle.scan_workers.proofs.exchange.Exchange.go_on.Goals as goal

pub invariant_of-answered : goal.invariant_of-answered
invariant_of-answered g c =
    let answered = c.args.answered.now in
    record { right = ∥∥₁_elim (c.args.self.now.known answered.number answered.answer answered.right) ∥∥₁_prop (λ w. c.args.self.now.right answered.number _ (c.go_on.ensures answered.number w)) }
