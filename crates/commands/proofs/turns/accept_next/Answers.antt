use Rattle.std.proofs.Common.{◌∙◌, rules}
use Rattle.commands.proofs.Serving.{fails_more, learnt_none}
use Rattle.commands.proofs.turns.accept_next.Goals as goal

pub loop-preserved : goal.loop-preserved
loop-preserved g c =
    let i = c.loop.invariant in
    let failed = c.in-Err-MayPass.ensures in
    record {
      next = tt;
      finite = tt;
      failed = fails_more g.L.Listen.accepts c.args.network.now c.loop.network c.accept.new.self i.failed (search rules);
      free = failed.at_rest;
      port = failed.port ∙ i.port;
      rests = (c.args.seat.now, failed.rests, learnt_none c.args.seat.now);
      due = λ port held is. failed.due port held (i.due port held is);
      cell = λ other is. failed.cell other (i.cell other is);
    }
