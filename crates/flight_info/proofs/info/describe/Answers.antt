use Rattle.flight_info.proofs.info.describe.Goals as goal

pub returns-in-Rows-clause-missed : goal.returns-in-Rows-clause-missed
returns-in-Rows-clause-missed c = rw c.in-Rows.is c.describe_query.ensures.missed
