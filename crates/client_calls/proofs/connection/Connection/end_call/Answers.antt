use Rattle.std.proofs.Common.{ap}
use Rattle.client_calls.specs.Outcome.{Line}
use Rattle.client_calls.proofs.Calling.{few_writes}
use Rattle.client_calls.proofs.Puts.{ended, not_ended, start}
use Rattle.client_calls.proofs.connection.Connection.end_call.Goals as goal

pub end_call-requires : goal.end_call-requires
end_call-requires g c = few_writes _ _ _ _ _ _ _ c.self.view_is c.requires.writes

pub returns-in-Ok-clause-ended : goal.returns-in-Ok-clause-ended
returns-in-Ok-clause-ended g c messages begun putting =
    let front = start messages begun _ _ _ _ _ _ _ _ putting c.self.view_is in
    ended messages begun _ _ _ _ _ _ _ _ _ putting _ c.self.view_is (c.in-Ok.ensures.bytes _ _ front) c.in-Ok.ensures.counted

pub returns-in-Err-clause-ended : goal.returns-in-Err-clause-ended
returns-in-Err-clause-ended g c messages begun putting =
    let front = start messages begun _ _ _ _ _ _ _ _ putting c.self.view_is in
    not_ended messages begun _ _ _ _ _ _ _ _ _ putting _ c.self.view_is c.in-Err.fault (c.in-Err.ensures.bytes _ _ front) c.in-Err.ensures.counted c.in-Err.ensures.kind

pub returns-in-Ok-clause-unread : goal.returns-in-Ok-clause-unread
returns-in-Ok-clause-unread g c = ap (λ (l : Line). l.incoming) c.self.view_is
