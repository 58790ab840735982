use Rattle.flight_proto.proofs.info_command.put_wanted.Goals as goal

pub returns-in-Tables-clause-ok : goal.returns-in-Tables-clause-ok
returns-in-Tables-clause-ok c = rw c.in-Tables.is c.put_command.ensures.ok
