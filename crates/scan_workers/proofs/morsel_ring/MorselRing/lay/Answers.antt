use Rattle.std.proofs.Common.{◌≡◌, ◌%◌, ℕ, length, ap, arith}
use Rattle.scan_workers.specs.declared.morsel_answer.MorselProgress.{MorselProgress}
use Rattle.scan_workers.proofs.Holding.{lay_held, lay_is}
use Rattle.scan_workers.proofs.morsel_ring.MorselRing.lay.Goals as goal

pub invariant_of-self : goal.invariant_of-self
invariant_of-self g c =
    let h = c.self.inside in
    let n : ℕ = c.args.done.answered.number in
    let size : c.len.result ≡ length h.slots.items = omega (arith, c.len.ensures, h.slots.ok.0) in
    lay_held (λ (done : MorselProgress g.row.K.Denot g.row.A.Denot g.K.Truth). done.answered.number) h.count h.read h.given h.begun h.slots.items (n % c.len.result) c.replace-before.new.dest c.args.done c.args.self.now c.self.view_is c.self.invariant c.requires (ap (λ (size : ℕ). n % size) size) c.replace-before.ensures.after

pub returns : goal.returns
returns g c =
    let h = c.self.inside in
    let n : ℕ = c.args.done.answered.number in
    let size : c.len.result ≡ length h.slots.items = omega (arith, c.len.ensures, h.slots.ok.0) in
    lay_is (λ (done : MorselProgress g.row.K.Denot g.row.A.Denot g.K.Truth). done.answered.number) h.count h.read h.given h.begun h.slots.items (n % c.len.result) c.replace-before.new.dest c.args.done c.args.self.now c.self.view_is (ap (λ (size : ℕ). n % size) size) c.replace-before.ensures.after
