use Rattle.client_calls.proofs.Calling.{few_writes}
use Rattle.client_calls.proofs.Puts.{part_sent, part_not_sent}
use Rattle.client_calls.proofs.connection.Connection.send_message.Goals as goal

pub send_payload-requires-clause-failures : goal.send_payload-requires-clause-failures
send_payload-requires-clause-failures g c = few_writes _ _ _ _ _ _ _ c.self.view_is c.requires.writes

pub returns-in-Ok : goal.returns-in-Ok
returns-in-Ok g c = part_sent _ _ _ _ _ _ _ _ _ _ _ _ c.self.view_is c.in-Ok.ensures.bytes c.in-Ok.ensures.counted

pub returns-in-Err : goal.returns-in-Err
returns-in-Err g c = part_not_sent _ _ _ _ _ _ _ _ _ _ _ _ c.in-Err.fault c.self.view_is c.requires.is_open c.in-Err.ensures.bytes c.in-Err.ensures.counted c.in-Err.ensures.kind
