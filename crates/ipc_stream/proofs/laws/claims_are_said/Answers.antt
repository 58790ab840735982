use Rattle.ipc_stream.proofs.Claims.{claims_are_said}
use Rattle.ipc_stream.proofs.laws.claims_are_said.Goals as goal

pub returns : goal.returns
returns c = claims_are_said
