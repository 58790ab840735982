use Rattle.version_log.specs.Versions.{IsIndexOf}
use Rattle.version_log.proofs.Versions.{newest_number, newest_tables}
use Rattle.version_cell.specs.SignedEntries.{log_of}
use Rattle.version_cell.proofs.cell_rule.Store.newest.Goals as goal

pub returns-clause-number : goal.returns-clause-number
returns-clause-number c =
    let log = log_of c.args.self.now.history.seen.log in
    let kept : IsIndexOf c.deref.result.now log = rw c.deref.ensures c.args.self.now.kept in
    (newest_number c.deref.result.now log kept c.newest.result.now.number c.newest.ensures.last c.newest.ensures.kept).0

pub returns-clause-tables : goal.returns-clause-tables
returns-clause-tables c =
    let log = log_of c.args.self.now.history.seen.log in
    let kept : IsIndexOf c.deref.result.now log = rw c.deref.ensures c.args.self.now.kept in
    newest_tables c.deref.result.now log kept c.newest.result.now.number c.newest.result.now.catalog c.newest.ensures.last c.newest.ensures.kept c.newest.ensures.tables

pub returns-clause-kept : goal.returns-clause-kept
returns-clause-kept c =
    let log = log_of c.args.self.now.history.seen.log in
    let kept : IsIndexOf c.deref.result.now log = rw c.deref.ensures c.args.self.now.kept in
    (newest_number c.deref.result.now log kept c.newest.result.now.number c.newest.ensures.last c.newest.ensures.kept).1
