use Rattle.std.proofs.Common.{rules}
use Rattle.client_commands.proofs.Spread.{shares_more, one_more}
use Rattle.client_commands.proofs.connecting.share_each.Goals as goal

pub loop-made-preserved : goal.loop-made-preserved
loop-made-preserved g c =
    let i = c.loop-made.invariant in (
      rw c.push_reserved.ensures.items (shares_more g.C.Connect.shares c.loop-made.handles.items c.share.result c.args.network.now c.loop-made.network c.share.new.self i.0 c.share.ensures),
      rw c.push_reserved.ensures.items (one_more c.loop-made.handles.items c.share.result c.loop-made._made i.1),
      search rules,
    )
