use Rattle.std.proofs.Common.{inr}
use Rattle.client_commands.proofs.put.put_text.Goals as goal

pub returns : goal.returns
returns g c =
    let made = rw c.in-Ok.ensures.2 at c.put_rows-counted.ensures in
    inr (record {
      ends = c.in-Ok.ensures.0;
      given = c.in-Ok.ensures.1;
      result = c.put_rows-counted.result;
      last = made.0;
      made = made.1;
      tells = c.tell_count.ensures;
    })
