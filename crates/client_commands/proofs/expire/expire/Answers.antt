use Rattle.std.proofs.Common.{inr}
use Rattle.client_commands.proofs.expire.expire.Goals as goal

pub returns : goal.returns
returns g c =
    inr (record {
      ends = c.in-Ok.ensures.0;
      given = c.in-Ok.ensures.1;
      result = c.expire-floor.result;
      last = c.expire-floor.new.connection;
      made = rw c.in-Ok.ensures.2 at c.expire-floor.ensures;
      tells = c.tell_floor.ensures;
    })
