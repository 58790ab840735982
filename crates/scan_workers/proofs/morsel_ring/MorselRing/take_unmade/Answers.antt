use Rattle.std.proofs.Common.{◌≡◌, ◌<◌, length, Some, arith}
use Rattle.scan_workers.specs.declared.morsel_answer.MorselProgress.{MorselProgress}
use Rattle.scan_workers.proofs.Holding.{take_held, take_is}
use Rattle.scan_workers.proofs.morsel_ring.MorselRing.take_unmade.Goals as goal

pub invariant_of-self : goal.invariant_of-self
invariant_of-self g c =
    let h = c.self.inside in
    let there : c.in_ok-place.place < length h.slots.items = omega (arith, c.in_ok-place.ensures.0, c.in_ok-place.ensures.1, c.len.ensures, h.slots.ok.0) in
    let e : c.index_mut.result.now ≡ Some c.in-Some.field-0 = cc (c.take-lying.ensures.value, c.in-Some.is) in
    take_held (λ (done : MorselProgress g.row.K.Denot g.row.A.Denot g.K.Truth). done.answered.number) h.count h.read h.given h.begun h.slots.items c.in_ok-place.place c.index_mut.result.now c.take-lying.new.self c.in-Some.field-0 c.self.invariant there c.index_mut.ensures.value e c.take-lying.ensures.after

pub returns-clause-some : goal.returns-clause-some
returns-clause-some g c =
    let h = c.self.inside in
    let there : c.in_ok-place.place < length h.slots.items = omega (arith, c.in_ok-place.ensures.0, c.in_ok-place.ensures.1, c.len.ensures, h.slots.ok.0) in
    let e : c.index_mut.result.now ≡ Some c.in-Some.field-0 = cc (c.take-lying.ensures.value, c.in-Some.is) in
    take_is (λ (done : MorselProgress g.row.K.Denot g.row.A.Denot g.K.Truth). done.answered.number) h.count h.read h.given h.begun h.slots.items c.in_ok-place.place c.index_mut.result.now c.take-lying.new.self c.in-Some.field-0 c.args.self.now c.self.view_is c.self.invariant there c.index_mut.ensures.value e c.take-lying.ensures.after
