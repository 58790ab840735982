use Rattle.scan_workers.specs.declared.morsel_answer.MorselProgress.{MorselProgress}
use Rattle.scan_workers.proofs.Holding.{first_held, first_is}
use Rattle.scan_workers.proofs.morsel_ring.MorselRing.new.Goals as goal

pub invariant_of-result : goal.invariant_of-result
invariant_of-result g c = first_held (λ (done : MorselProgress g.row.K.Denot g.row.A.Denot g.K.Truth). done.answered.number) c.args.count c.args.room c.in_ok-slots.slots.items c.in_ok-slots.ensures

pub returns : goal.returns
returns g c = first_is (λ (done : MorselProgress g.row.K.Denot g.row.A.Denot g.K.Truth). done.answered.number) c.args.count c.args.room c.in_ok-slots.slots.items c.in_ok-slots.ensures
