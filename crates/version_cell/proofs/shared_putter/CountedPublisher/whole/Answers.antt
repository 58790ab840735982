use Rattle.std.proofs.Common.{◌≡◌, ◌+◌, ◌^◌, length, ap, arith, rules}
use Rattle.version_cell.specs.Seats.{GatheredSeatsAt}
use Rattle.version_cell.specs.SignedEntries.{log_of, made_by_all, made_by_each, powers, seats_of}
use Rattle.version_cell.proofs.Logs.{begins_of, log_of-length}
use Rattle.version_cell.proofs.Parts.{all_merge}
use Rattle.version_cell.proofs.shared_putter.CountedPublisher.whole.Goals as goal

pub returns-then-begins-clause-begins : goal.returns-then-begins-clause-begins
returns-then-begins-clause-begins g c =
    let same : log_of c.all.inside.history.seen.log ≡ c.args.all.now.log = ap (λ (g : GatheredSeatsAt). g.log) c.all.view_is in
    let told : log_of c.history.result.seen.log ≡ c.tell.result = search rules in
    rw (same, told) at (begins_of c.all.inside.history.seen.log c.history.result.seen.log (rw c.if-begins.true at c.begins.ensures))

pub returns-then-begins-clause-counted : goal.returns-then-begins-clause-counted
returns-then-begins-clause-counted g c =
    omega (
      arith,
      ap length c.tell.ensures.same,
      log_of-length c.args.self.now.publisher,
      c.args.self.now.counted,
      c.audit.ensures.whole,
      ap (λ (g : GatheredSeatsAt). g.made) c.all.view_is,
    )

pub returns-then-begins-clause-each : goal.returns-then-begins-clause-each
returns-then-begins-clause-each g c =
    let parts = c.all.inside.parts.value.parts in
    let seats = g.C.Ledger.parts in
    let each : made_by_each parts ≡ c.args.all.now.each = ap (λ (g : GatheredSeatsAt). g.each) c.all.view_is in
    let told : log_of c.history.result.seen.log ≡ c.tell.result = search rules in
    let many : length parts ≡ seats = omega (arith, c.all.invariant.1, ap (λ (g : GatheredSeatsAt). g.seats) c.all.view_is, c.requires) in
    let sum : powers (seats_of parts) + 1 ≡ 2 ^ seats = omega (arith, c.all.invariant.3, c.audit.ensures.numbers) in
    let counted : made_by_all parts ≡ length c.history.result.seen.log =
    omega (arith, c.all.invariant.2, c.audit.ensures.whole, c.args.self.now.counted, ap length c.history.ensures.log) in
    rw (each, told) at (all_merge parts c.all.inside.history.seen.log c.history.result.seen.log seats (rw c.if-begins.true at c.begins.ensures) c.all.invariant.4 many sum counted)
