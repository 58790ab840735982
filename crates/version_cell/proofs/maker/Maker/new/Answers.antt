use Rattle.std.proofs.Common.{rules}
use Rattle.version_cell.proofs.Merging.{none_among}
use Rattle.version_cell.proofs.maker.Maker.new.Goals as goal

pub invariant_of-result : goal.invariant_of-result
invariant_of-result g c = (search rules, search rules, none_among _ _ c.none.ensures, search rules, search rules)
