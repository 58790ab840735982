use Rattle.std.proofs.Common.{◌≡◌, ◌∙◌, ◌<◌, ◌%◌, ℕ, IsSome, length, Some, ap, arith}
use Rattle.scan_workers.specs.declared.morsel_answer.MorselProgress.{MorselProgress}
use Rattle.scan_workers.proofs.Holding.{give_held, give_is, was_begun}
use Rattle.scan_workers.proofs.morsel_ring.MorselRing.give.Goals as goal

pub overflow_add-self : goal.overflow_add-self
overflow_add-self g c =
    let h = c.self.inside in
    let there : c.in_ok-place.place < length h.slots.items = omega (arith, c.in_ok-place.ensures.0, c.in_ok-place.ensures.1, c.len.ensures, h.slots.ok.0) in
    let size : c.len.result ≡ length h.slots.items = omega (arith, c.len.ensures, h.slots.ok.0) in
    let own : c.in_ok-place.place ≡ h.read % length h.slots.items = c.in_ok-place.ensures.1 ∙ ap (λ (size : ℕ). h.read % size) size in
    let some : IsSome c.index.result.now = c.lies_in.ensures c.if-not-lies_in.false in
    let begun = was_begun (λ (done : MorselProgress g.row.K.Denot g.row.A.Denot g.K.Truth). done.answered.number) h.count h.read h.given h.begun h.slots.items c.in_ok-place.place c.index.result.now c.self.invariant there c.index.ensures some own in
    record { fits = omega (arith, begun) }

pub invariant_of-self : goal.invariant_of-self
invariant_of-self g c =
    let h = c.self.inside in
    let there : c.in_ok-place.place < length h.slots.items = omega (arith, c.in_ok-place.ensures.0, c.in_ok-place.ensures.1, c.len.ensures, h.slots.ok.0) in
    let e : c.index_mut.result.now ≡ Some c.in-Some.field-0 = cc (c.take-lying.ensures.value, c.in-Some.is) in
    let size : c.len.result ≡ length h.slots.items = omega (arith, c.len.ensures, h.slots.ok.0) in
    let own : c.in_ok-place.place ≡ h.read % length h.slots.items = c.in_ok-place.ensures.1 ∙ ap (λ (size : ℕ). h.read % size) size in
    give_held (λ (done : MorselProgress g.row.K.Denot g.row.A.Denot g.K.Truth). done.answered.number) h.count h.read h.given h.begun h.slots.items c.in_ok-place.place c.index_mut.result.now c.take-lying.new.self c.in-Some.field-0 c.self.invariant there c.index_mut.ensures.value e c.take-lying.ensures.after own

pub returns-clause-some : goal.returns-clause-some
returns-clause-some g c =
    let h = c.self.inside in
    let there : c.in_ok-place.place < length h.slots.items = omega (arith, c.in_ok-place.ensures.0, c.in_ok-place.ensures.1, c.len.ensures, h.slots.ok.0) in
    let e : c.index_mut.result.now ≡ Some c.in-Some.field-0 = cc (c.take-lying.ensures.value, c.in-Some.is) in
    let size : c.len.result ≡ length h.slots.items = omega (arith, c.len.ensures, h.slots.ok.0) in
    let own : c.in_ok-place.place ≡ h.read % length h.slots.items = c.in_ok-place.ensures.1 ∙ ap (λ (size : ℕ). h.read % size) size in
    give_is (λ (done : MorselProgress g.row.K.Denot g.row.A.Denot g.K.Truth). done.answered.number) h.count h.read h.given h.begun h.slots.items c.in_ok-place.place c.index_mut.result.now c.take-lying.new.self c.in-Some.field-0 c.args.self.now c.self.view_is c.self.invariant there c.index_mut.ensures.value e c.take-lying.ensures.after own
