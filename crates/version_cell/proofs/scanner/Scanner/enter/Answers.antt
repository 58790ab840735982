use Rattle.std.proofs.Common.{◌≡◌, true, [], ◌++◌, sym, ap, ◌∙◌, append-nil, rules}
use Rattle.version_log.specs.Log.{Log}
use Rattle.version_cell.specs.Seats.{Seat}
use Rattle.version_cell.specs.SignedEntries.{MakerAt, log_of}
use Rattle.version_cell.proofs.Logs.{begins_of}
use Rattle.version_cell.proofs.scanner.Scanner.enter.Goals as goal

-- what the seat has seen stays
pub returns-then-not-begins-clause-begins : goal.returns-then-not-begins-clause-begins
returns-then-not-begins-clause-begins g c =
    let same : log_of c.self.inside.maker.seen ≡ c.args.self.now.log = ap (λ (s : Seat). s.log) c.self.view_is in
    ([], same ∙ sym (append-nil c.args.self.now.log))

-- or the log that is entered goes on from it
pub returns-else-not-begins-clause-begins : goal.returns-else-not-begins-clause-begins
returns-else-not-begins-clause-begins g c =
    let mine : log_of c.history.result.now.seen.log ≡ c.args.self.now.log = ap log_of c.history.ensures.log ∙ ap (λ (s : Seat). s.log) c.self.view_is in
    let next : log_of c.see.new.self.seen ≡ log_of c.in-Some.store.history.seen.log = ap (λ (m : MakerAt). log_of m.seen) c.see.ensures in
    let found : c.begins.result ≡ true = search rules in
    let on = begins_of c.history.result.now.seen.log c.in-Some.store.history.seen.log (rw found at c.begins.ensures) in
    (on.0, next ∙ (on.1 ∙ ap (λ (l : Log). l ++ on.0) mine))
