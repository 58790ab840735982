use Rattle.std.proofs.Common.{rules}
use Rattle.version_cell.proofs.Entries.{nothing_is_log}
use Rattle.version_cell.proofs.cell.Blank.named.Goals as goal

pub new-publisher-requires-clause-is_log : goal.new-publisher-requires-clause-is_log
new-publisher-requires-clause-is_log g c = nothing_is_log _ (search rules)
