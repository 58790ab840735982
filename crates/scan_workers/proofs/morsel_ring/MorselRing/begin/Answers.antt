use Rattle.scan_workers.specs.declared.morsel_answer.MorselProgress.{MorselProgress}
use Rattle.scan_workers.proofs.Holding.{begin_held}
use Rattle.scan_workers.proofs.morsel_ring.MorselRing.begin.Goals as goal

pub invariant_of-self : goal.invariant_of-self
invariant_of-self g c =
    let h = c.self.inside in
    begin_held (λ (done : MorselProgress g.row.K.Denot g.row.A.Denot g.K.Truth). done.answered.number) h.count h.read h.given h.begun h.slots.items c.args.self.now c.self.view_is c.self.invariant c.requires
