use Rattle.std.proofs.Common.{◌∙◌}
use Rattle.flight_info.proofs.Describing.{one_range}
use Rattle.flight_info.proofs.info.endpoint_ranges.Goals as goal

pub returns-then-grouped : goal.returns-then-grouped
returns-then-grouped c = rw c.if-grouped.true (c.split.ensures.exact ∙ one_range c.args.rows)
