use Rattle.version_log.specs.Versions.{IsIndexOf}
use Rattle.version_log.proofs.Versions.{is_there, version_found}
use Rattle.version_cell.specs.SignedEntries.{log_of}
use Rattle.version_cell.proofs.cell_rule.Store.version.Goals as goal

pub at-requires : goal.at-requires
at-requires c =
    let log = log_of c.args.self.now.history.seen.log in
    let kept : IsIndexOf c.deref.result.now log = rw c.deref.ensures c.args.self.now.kept in
    let there = is_there c.deref.result.now log kept c.args.number c.requires.kept c.requires.reached in
    record { kept = there.0; reached = there.1 }

pub returns-clause-tables : goal.returns-clause-tables
returns-clause-tables c =
    let log = log_of c.args.self.now.history.seen.log in
    let kept : IsIndexOf c.deref.result.now log = rw c.deref.ensures c.args.self.now.kept in
    version_found c.deref.result.now log kept c.args.number c.at.result c.requires.kept c.requires.reached c.at.ensures.tables
