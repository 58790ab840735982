use Rattle.std.proofs.Common.{◌≡◌, ◌∷◌, ap, rules, subst}
use Rattle.version_log.specs.Log.{Log, Begins}
use Rattle.version_cell.specs.Seats.{GatheredSeatsAt}
use Rattle.version_cell.specs.SignedEntries.{MakerAt, log_of, part_at}
use Rattle.version_cell.proofs.Logs.{begins_of}
use Rattle.version_cell.proofs.Parts.{one_taken}
use Rattle.version_cell.proofs.gathered_seats.GatheredSeats.take_maker.Goals as goal

pub invariant_of-self : goal.invariant_of-self
invariant_of-self g c =
    let mine = c.maker.inside in
    let before = c.self.inside.parts.value.parts in
    let taken : c.with.result.value.parts ≡ part_at mine.seat mine.made.value.entries ∷ before = search rules in
    let all =
    one_taken mine.seat mine.made.value.entries before c.with.result.value.parts mine.history.seen.log c.self.inside.history.seen.log c.longer.result.seen.log
    c.self.inside.shares mine.shares c.merge.new.self c.self.invariant.1 c.self.invariant.2 c.self.invariant.3 c.self.invariant.4
    c.maker.invariant.1 c.maker.invariant.2 c.longer.ensures.this c.longer.ensures.that taken c.merge.ensures in
    (search rules, all.0, all.1, all.2, all.3)

pub returns-clause-log : goal.returns-clause-log
returns-clause-log g c =
    let same : log_of c.self.inside.history.seen.log ≡ c.args.self.now.log = ap (λ (g : GatheredSeatsAt). g.log) c.self.view_is in
    subst (λ (l : Log). Begins l (log_of c.longer.result.seen.log)) same (begins_of c.self.inside.history.seen.log c.longer.result.seen.log c.longer.ensures.this)

pub returns-clause-seen : goal.returns-clause-seen
returns-clause-seen g c =
    let same : log_of c.maker.inside.history.seen.log ≡ log_of c.args.maker.seen = ap (λ (m : MakerAt). log_of m.seen) c.maker.view_is in
    subst (λ (l : Log). Begins l (log_of c.longer.result.seen.log)) same (begins_of c.maker.inside.history.seen.log c.longer.result.seen.log c.longer.ensures.that)
