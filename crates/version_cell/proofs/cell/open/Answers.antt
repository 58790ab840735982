use Rattle.std.proofs.Common.{◌≡◌, [], ◌∷◌, rules}
use Rattle.version_log.specs.Index.{IndexAt, index_at}
use Rattle.version_log.specs.Versions.{IsIndexOf}
use Rattle.version_log.proofs.Versions.{first_index}
use Rattle.version_cell.proofs.cell.open.Goals as goal

first_index_is : (index : IndexAt) → index ≡ index_at 0 ([] ∷ []) → IsIndexOf index []
first_index_is index is = rw is first_index

pub invariant_of-result-2 : goal.invariant_of-result-2
invariant_of-result-2 c = search (rules, first_index_is)
