use Rattle.std.proofs.Common.{◌≡◌, ◌++◌, ◌∷◌, List, [], refl, sym, ap, ◌∙◌, subst}
use Rattle.version_log.specs.Log.{Log, IsLog}
use Rattle.version_cell.specs.SignedEntries.{SignedEntry, log_of}
use Rattle.version_cell.proofs.Entries.{is_log_behind, read_is_log}
use Rattle.version_cell.proofs.Logs.{log_of-more}
use Rattle.version_cell.proofs.publisher.Publisher.commit.Goals as goal

-- what is shown then is the log with the entry after it
pub invariant_of-self : goal.invariant_of-self
invariant_of-self g c =
    let log = c.args.self.now in
    let entry = c.args.entry.now in
    let shown = c.publish-writer.result.desk.shown.value.history.seen in
    let was : IsLog (log_of log) = subst (λ (l : List SignedEntry). IsLog (log_of l)) c.self.view_is (read_is_log (λ writer. writer.desk.shown.value.history.seen.log) (λ writer. writer.desk.shown.value.history.seen.book ≡ g.C.CellName.book) c.self.inside.writer c.self.invariant.1 c.self.invariant.2) in
    let same : shown.log ≡ log ++ entry ∷ [] = ap (λ s. s.log) c.publish-writer.ensures ∙ ap (λ h. h.seen.log) c.new-store.ensures ∙ c.record.ensures.log in
    let is : IsLog (log_of shown.log) = subst (λ (l : Log). IsLog l) (sym (ap log_of same ∙ log_of-more log entry)) (is_log_behind (log_of log) entry.entry was c.requires.accepted) in
    rw c.replace-gone.ensures.after (c.self.invariant.0, refl, (ap (λ s. s.book) c.publish-writer.ensures ∙ ap (λ h. h.seen.book) c.new-store.ensures ∙ c.record.ensures.book, is))
