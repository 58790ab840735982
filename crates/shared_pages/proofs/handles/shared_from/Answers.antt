use Rattle.std.specs.Arc.{arc_value}
use Rattle.std.proofs.Common.{map}
use Rattle.shared_pages.proofs.Lists.{slice-rest, ok_same}
use Rattle.shared_pages.proofs.handles.shared_from.Goals as goal

pub returns : goal.returns
returns g c = ok_same (λ rest. map arc_value rest.items) c.shared.result _ _ (slice-rest arc_value c.args.first c.args.handles.now) c.shared.ensures
