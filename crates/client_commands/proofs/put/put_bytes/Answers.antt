use Rattle.std.proofs.Common.{inr}
use Rattle.client_commands.proofs.put.put_bytes.Goals as goal

pub returns-in-Ok : goal.returns-in-Ok
returns-in-Ok g c =
    inr (record {
      messages = c.in-Ok.messages.items;
      rest = c.in-Ok.ensures.exact.0;
      framed = c.in-Ok.ensures.exact.1;
      puts = rw c.deref.ensures.value at c.put_messages.ensures;
    })
