use Rattle.fetch_stream.proofs.Answering as answering
use Rattle.fetch_stream.proofs.laws.streams_answer.Goals as goal

pub returns : goal.returns
returns c = answering.streams_answer
