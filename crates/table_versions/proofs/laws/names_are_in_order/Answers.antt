use Rattle.table_versions.proofs.Order.{names_are_in_order}
use Rattle.table_versions.proofs.laws.names_are_in_order.Goals as goal

pub returns : goal.returns
returns c = names_are_in_order
