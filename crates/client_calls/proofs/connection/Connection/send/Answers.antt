use Rattle.client_calls.proofs.Calling.{few_writes, sent, not_sent}
use Rattle.client_calls.proofs.connection.Connection.send.Goals as goal

pub write_call-requires : goal.write_call-requires
write_call-requires g c = few_writes _ _ _ _ _ _ _ c.self.view_is c.requires.writes

pub returns-in-Ok : goal.returns-in-Ok
returns-in-Ok g c = sent _ _ _ _ _ _ _ _ _ c.self.view_is c.in-Ok.ensures

pub returns-in-Err : goal.returns-in-Err
returns-in-Err g c = not_sent _ _ _ _ _ _ _ _ _ _ _ c.self.view_is c.requires.is_open c.in-Err.ensures c.stop_of-self-inside.ensures.yes c.stop_of-self-inside.ensures.no
