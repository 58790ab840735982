use Rattle.std.proofs.Common.{sym}
use Rattle.grouping.proofs.JoinedKeys.{alone_joined}
use Rattle.grouping.proofs.groups.Grouping.join_firsts.Goals as goal

pub returns-then-is_empty-clause-found : goal.returns-then-is_empty-clause-found
returns-then-is_empty-clause-found g c = (alone_joined c.args.self.now.keys.now c.args.firsts.now.keys c.args.others.now.keys (sym c.if-is_empty.ensures)).0

pub returns-then-is_empty-clause-joined : goal.returns-then-is_empty-clause-joined
returns-then-is_empty-clause-joined g c =
    rw (c.in_ok-push.ensures.items, c.in_ok-groups.ensures.items)
    (alone_joined c.args.self.now.keys.now c.args.firsts.now.keys c.args.others.now.keys (sym c.if-is_empty.ensures)).1
