use Rattle.std.proofs.Common.{sym, ◌∙◌}
use Rattle.flight_core.proofs.Arriving.{read_whole, read_refused}
use Rattle.flight_core.proofs.put.PutReader.into_put.Goals as goal

pub returns-in-Ok-clause-read : goal.returns-in-Ok-clause-read
returns-in-Ok-clause-read c payloads has = read_whole _ _ payloads c.in-Ok.begun c.args.self (sym c.self.view_is ∙ c.in-Ok.is) (rw c.in-Ok.begun-is at c.whole_put.ensures) has

pub returns-in-Err-clause-read : goal.returns-in-Err-clause-read
returns-in-Err-clause-read c payloads has = read_refused payloads c.in-Err.fault c.args.self (sym c.self.view_is ∙ c.in-Err.is) has
