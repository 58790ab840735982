use Rattle.std.proofs.Common.{Err}
use Rattle.client_calls.specs.declared.failure.Failure.TheVariants.{Found}
use Rattle.client_calls.specs.StreamAnswers.{AnswersStream}
use Rattle.client_calls.proofs.Calling.{few_reads, received, stopped_by}
use Rattle.client_calls.proofs.connection.Connection.receive_stream.Goals as goal

pub read_stream-requires-clause-failures : goal.read_stream-requires-clause-failures
read_stream-requires-clause-failures g c = few_reads _ _ _ _ _ _ _ c.self.view_is c.requires.reads

pub returns-in-Ok : goal.returns-in-Ok
returns-in-Ok g c = received (AnswersStream c.in-Ok.answer) _ _ _ _ _ _ _ _ _ c.self.view_is c.requires.is_open c.in-Ok.ensures.answer

pub returns-in-Err : goal.returns-in-Err
returns-in-Err g c = stopped_by (AnswersStream (Err (Found c.in-Err.fault))) _ _ _ _ _ _ c.read_stream.new.inbox _ _ c.self.view_is c.requires.is_open _ c.in-Err.ensures.answer
