use Rattle.std.proofs.Common.{inr}
use Rattle.client_commands.proofs.put.put.Goals as goal

pub returns-in-Ok : goal.returns-in-Ok
returns-in-Ok g c = inr (c.in-Ok.stream, c.in-Ok.ensures, c.put_bytes.ensures)
