use Rattle.std.proofs.Common.{inr, ℕ, List, Option, subst}
use Rattle.command_ends.specs.Printing.{count_line, said_of}
use Rattle.fault_hints.specs.Hints.{put_hint}
use Rattle.client_commands.specs.CallOutcome.{Tells}
use Rattle.client_commands.proofs.put.put_messages.Goals as goal

pub returns : goal.returns
returns g c =
    let target = c.args.putting.target in
    inr (record {
      ends = c.in-Ok.ensures.0;
      given = c.in-Ok.ensures.1;
      result = c.put-counted.result;
      last = c.put-counted.new.connection;
      made = rw c.in-Ok.ensures.2 at c.put-counted.ensures;
      tells = subst (λ (header : Option (List ℕ)). Tells (put_hint target.table.now target.mode header) count_line c.put-counted.result c.tell_count.result
          (said_of g.W.Output c.args.output.now) (said_of g.W.Output c.tell_count.new.output)
          (said_of g.E.Output c.args.faults.now) (said_of g.E.Output c.tell_count.new.faults)) c.first_header.ensures c.tell_count.ensures;
    })
