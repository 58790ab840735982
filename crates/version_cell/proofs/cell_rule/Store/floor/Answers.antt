use Rattle.std.proofs.Common.{◌∙◌}
use Rattle.version_log.specs.Versions.{IsIndexOf}
use Rattle.version_cell.specs.SignedEntries.{log_of}
use Rattle.version_cell.proofs.cell_rule.Store.floor.Goals as goal

pub returns : goal.returns
returns c =
    let kept : IsIndexOf c.deref.result.now (log_of c.args.self.now.history.seen.log) = rw c.deref.ensures c.args.self.now.kept in
    c.floor.ensures ∙ kept.floor
